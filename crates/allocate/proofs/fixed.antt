pub mod Placed
pub mod Call
pub mod Outcome
