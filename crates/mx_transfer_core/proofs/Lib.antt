mod HandedOn
pub mod QueuedSends
pub mod Sends
