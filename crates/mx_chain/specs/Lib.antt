pub mod Hops
pub mod Outcomes
pub mod Chains
pub mod Steps
-- Private: how a transfer goes on from a hop that has ended.
pub mod Going
pub mod Laws
-- Private: what memory has of the hops that were followed.
pub mod Followed
-- Private: what is handed on of a hop.
pub mod Passing
