pub mod Contents
pub mod Hosts
pub mod Multis
pub mod Words
