-- What contracts cite: the state of an input and an output, what was written and how a run ends, its end by a fault, and how URLs are
-- fetched.
pub mod Ends
pub mod Faults
pub mod Options
