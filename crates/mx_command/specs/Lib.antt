-- What `read_command`, `read_save` and `hint_of` promise.
pub mod Asked
pub mod Given
pub mod Hints
pub mod Said
pub mod Saving
