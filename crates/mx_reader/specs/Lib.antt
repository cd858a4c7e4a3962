-- What the crate promises, in the order to read it.
pub mod Judgements
pub mod Readers
pub mod Whys
pub mod Laws
-- Private: what the private functions promise one another.
pub mod Flowing
pub mod Modes
