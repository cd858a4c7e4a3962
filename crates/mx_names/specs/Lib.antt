pub mod Addresses
pub mod Faults
pub mod Laws
pub mod Names
pub mod System
pub mod Asked
pub mod Hosts
