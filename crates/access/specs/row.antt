pub mod Row
pub mod Begins
