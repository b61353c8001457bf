pub mod Zone
pub mod Bays
pub mod Ways
pub mod Call
pub mod Outcome
