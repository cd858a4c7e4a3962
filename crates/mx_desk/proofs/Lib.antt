mod Backs
pub mod Desks
mod Reading
mod Ties
