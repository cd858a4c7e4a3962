pub mod Endpoint
pub mod Fields
pub mod Laws
pub mod Limits
pub mod Redirects
pub mod Request
pub mod RequestBytes
pub mod RequestError
