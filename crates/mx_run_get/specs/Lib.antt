-- What `run_get_explained` promises, in the order to read it.
pub mod Asked
pub mod Causes
pub mod Explained
pub mod Explains
pub mod FetchError
pub mod Getting
pub mod Places
pub mod Printer
pub mod Run
