-- What `run_save` does, and what its exit status says.
pub mod Asked
pub mod Runs
pub mod Saved
pub mod Screens
pub mod Status
pub mod Told
pub mod Unbegun
