pub mod Prefixes
pub mod Appending
