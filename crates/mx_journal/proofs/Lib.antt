pub mod Controls
pub mod Remains
pub mod OriginLists
pub mod Returns
pub mod Retirings
pub mod Calling
pub mod Beginnings
