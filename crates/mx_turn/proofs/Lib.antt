pub mod Accounts
mod Looks
pub mod Newest
pub mod Order
mod Supplying
pub mod Takes
pub mod Within
