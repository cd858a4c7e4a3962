mod Hands
pub mod Parties
