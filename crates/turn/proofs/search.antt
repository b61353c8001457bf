pub mod Walk
pub mod Halves
pub mod Found
