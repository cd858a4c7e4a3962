pub mod Keys
pub mod Leaving
pub mod Queueing
pub mod Claims
pub mod Made
pub mod Tying
pub mod Sends
