pub mod Kept
pub mod Lookups
pub mod Lanes
pub mod SlotCounts
