-- What `run_body` and `run_play` promise.
-- Private: what its private functions promise one another.
pub mod Body
pub mod BodyTexts
pub mod Explained
pub mod Players
pub mod Reading
pub mod Run
pub mod Script
pub mod Session
pub mod Texts
pub mod Turns
