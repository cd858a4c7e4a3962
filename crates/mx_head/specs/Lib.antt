-- What the crate promises, in the order to read it.
pub mod Limits
pub mod Heads
pub mod Fields
pub mod Framing
pub mod Summary
pub mod Faults
pub mod Fronts
pub mod Reading
pub mod Laws
-- Private: what the private functions promise one another. Nothing outside the crate names them.
pub mod Steps
pub mod Lines
pub mod Tried
pub mod Scan
