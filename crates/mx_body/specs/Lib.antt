-- What the crate promises, in the order to read it.
pub mod Parts
pub mod Chunked
pub mod Response
pub mod Causes
pub mod Decision
pub mod Decoder
pub mod ChunkedScan
pub mod ChunkedRfc
pub mod ChunkedLaws
pub mod Laws
-- Private: what the private functions promise one another.
pub mod ChunkedPlace
pub mod Steps
pub mod ChunkedStretch
pub mod ChunkedReader
pub mod Progress
