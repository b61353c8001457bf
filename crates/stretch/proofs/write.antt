pub mod Edited
pub mod Refill
pub mod Laws
pub mod Outcomes
pub mod Hardware
