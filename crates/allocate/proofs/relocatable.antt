pub mod Writes
pub mod Placed
pub mod PlanLaws
pub mod Zone
pub mod Added
pub mod Ways
pub mod Call
pub mod Outcome
