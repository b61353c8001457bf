pub mod Bays
pub mod Laws
pub mod Outcome
