pub mod Stretch
pub mod Part
