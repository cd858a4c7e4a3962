-- What `run_task` promises.
pub mod Tasks
