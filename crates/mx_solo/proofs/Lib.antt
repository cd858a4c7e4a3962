mod Additions
mod Owning
mod Requests
mod Steps
