pub mod Gates
pub mod Stops
pub mod Worked
