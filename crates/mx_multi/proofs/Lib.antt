pub mod Standing
pub mod Claiming
pub mod Opening
pub mod Progresses
pub mod Kept
pub mod Runs
pub mod Sends
