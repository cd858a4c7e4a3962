pub mod Apart
pub mod Bytes
pub mod Counting
pub mod Segment
pub mod Sends
pub mod Told
