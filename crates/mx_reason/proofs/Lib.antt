mod Fronts
mod Walks
mod Meeting
mod Telling
mod Cutting
