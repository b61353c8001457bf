pub mod Bays
pub mod Walk
pub mod Laws
pub mod Outcome
