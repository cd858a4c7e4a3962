pub mod HopLemmas
pub mod Passing
pub mod StepLemmas
pub mod Sends
pub mod LawLemmas
pub mod Places
