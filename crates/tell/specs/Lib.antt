pub mod Sums
pub mod Told
pub mod roster
