mod Puts
pub mod Sends
