pub mod Between
pub mod Whole
