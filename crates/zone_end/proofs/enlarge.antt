pub mod Last
pub mod Zone
pub mod Call
pub mod Outcome
