pub mod Cores
pub mod Deliveries
