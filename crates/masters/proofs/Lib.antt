pub mod Writes
pub mod Image
pub mod Grown
