-- What the crate promises, in the order to read it.
pub mod Data
pub mod Flows
pub mod Laws
pub mod Responses
pub mod Streams
pub mod Whys
-- Private: what the private functions promise one another.
pub mod Steps
pub mod Runs
pub mod Stages
