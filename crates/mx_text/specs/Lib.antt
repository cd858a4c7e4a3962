-- What is reported of a failure, and what `get` asks and prints.
pub mod Asking
pub mod Failures
pub mod Fetched
pub mod Hints
pub mod Laws
pub mod Lines
pub mod Texts
pub mod Words
