pub mod Own
pub mod Here
pub mod Grow
