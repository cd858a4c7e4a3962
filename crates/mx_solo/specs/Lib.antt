pub mod Owning
pub mod Seats
