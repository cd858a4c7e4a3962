pub mod Answers
pub mod Definitions
pub mod History
pub mod Laws
pub mod Receipts
pub mod Rows
pub mod Slots
pub mod Table
