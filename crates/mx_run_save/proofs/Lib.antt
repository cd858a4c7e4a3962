mod Leaves
mod Refused
mod Runs
