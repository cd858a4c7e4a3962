pub mod Code
pub mod Limits
pub mod Method
pub mod MultiCode
pub mod Origin
pub mod Settings
