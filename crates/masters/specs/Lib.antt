pub mod chain
pub mod Grown
