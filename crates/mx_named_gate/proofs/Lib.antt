pub mod Bursts
mod NamedLemmas
pub mod PacedSends
pub mod Sends
