mod Lives
pub mod HopLemmas
pub mod Advanced
pub mod StageLemmas
pub mod Bodies
pub mod Sends
pub mod Whys
