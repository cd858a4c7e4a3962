pub mod Laws
pub mod Meeting
pub mod Opening
pub mod Progress
pub mod Retiring
pub mod Seats
