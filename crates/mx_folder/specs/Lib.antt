-- What contracts cite: what was done to a folder, what its parts and its names hold, what a kill or a loss of power may leave, and what is said of a
-- refusal; the path in a URL's text, the name that it gives, what a safe name is, and the laws.
pub mod Counts
pub mod Files
pub mod Laws
pub mod Log
pub mod Memory
pub mod Moments
pub mod Names
pub mod Parts
pub mod Paths
pub mod Safe
pub mod Steps
pub mod Words
