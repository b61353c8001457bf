pub mod Still
pub mod Space
pub mod Sorted
