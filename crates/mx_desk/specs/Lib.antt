pub mod Additions
pub mod Adding
pub mod Calls
pub mod Desks
pub mod Ties
