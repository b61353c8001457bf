pub mod Gathered
pub mod Way
