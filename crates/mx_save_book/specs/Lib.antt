pub mod Books
pub mod Jobs
pub mod Lines
