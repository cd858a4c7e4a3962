-- What contracts cite: bodies, how their ends were found, what is reported of a transfer that has ended, and what is said of a failure.
pub mod Bodies
pub mod Framings
pub mod Heard
pub mod Said
