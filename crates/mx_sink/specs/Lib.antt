-- What contracts cite: what a sink takes, the codes of its errors, what is known of an outlet, and content on its way to one.
pub mod Outlets
pub mod Sinks
pub mod Windows
