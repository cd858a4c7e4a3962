pub mod Queues
mod Handing
mod Looking
mod Waiting
mod Passing
mod Turning
