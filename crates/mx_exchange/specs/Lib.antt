pub mod Exchanges
pub mod Turns
pub mod Hops
pub mod Laws
-- Private: an exchange that goes on, or has ended.
pub mod Stages
