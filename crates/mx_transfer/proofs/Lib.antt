pub mod Sends
mod Wakers
