pub mod Laws
pub mod Named
pub mod Pace
