pub mod Answers
pub mod Calls
pub mod Script
pub mod Plan
pub mod Streams
pub mod Laws
