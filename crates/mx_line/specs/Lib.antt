pub mod Order
pub mod Endings
pub mod Lines
pub mod Laws
-- Private: what the functions that make one call promise one another.
pub mod Calls
