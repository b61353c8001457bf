pub mod Limits
pub mod Stratum
