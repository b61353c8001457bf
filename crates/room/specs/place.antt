pub mod Hole
pub mod Fit
pub mod Room
pub mod Found
pub mod Prepared
