pub mod Lock
pub mod Engine
pub mod Queues
pub mod Ties
