mod BookSteps
mod Books
mod Calls
mod Fails
mod Holds
pub mod Later
mod Names
mod Parts
mod Slots
mod Telling
