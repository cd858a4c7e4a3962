mod Building
pub mod Kept
mod Printed
mod Reasons
mod Steps
mod Telling
