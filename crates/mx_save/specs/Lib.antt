-- What contracts cite: what a save leaves, the parts that are made, by which names they are tried, and how those that are out are removed, what
-- holds of a run's saves, what a sink that writes to a part has taken, what is said of a body that wasn't saved, and the laws.
pub mod Bodies
pub mod Laws
pub mod Ledgers
pub mod Made
pub mod Out
pub mod PartSinks
pub mod Sweeps
pub mod Tries
pub mod Words
