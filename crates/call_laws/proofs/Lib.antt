pub mod Outcome
pub mod Accepted
pub mod Frame
pub mod Named
pub mod Placed
pub mod Refused
