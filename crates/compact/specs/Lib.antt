pub mod Compacted
pub mod Next
pub mod Packed
