pub mod Tables
pub mod Orders
pub mod BracketLemmas
mod AskedLemmas
mod GivenLemmas
mod LawLemmas
