mod Bodies
mod Fetchings
mod Outputs
mod Sends
