pub mod Asked
pub mod Feeds
pub mod Plans
pub mod Runs
pub mod Texts
pub mod Works
