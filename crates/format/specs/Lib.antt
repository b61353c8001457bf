pub mod OneWalk
pub mod Steps
pub mod WellFormed
pub mod Occurs
