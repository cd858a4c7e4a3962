pub mod Lines
pub mod Faults
pub mod Cuts
pub mod Reasons
pub mod Steps
