pub mod Tally
pub mod Told
