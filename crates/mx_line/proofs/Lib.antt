mod Fronts
pub mod Judged
pub mod Ordered
pub mod LineSteps
pub mod Steps
pub mod Serves
pub mod Sends
mod Placed
