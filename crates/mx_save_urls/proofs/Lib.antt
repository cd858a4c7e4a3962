pub mod Asked
mod Begins
mod Feeds
mod Runs
mod Waits
pub mod Works
