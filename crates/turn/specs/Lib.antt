pub mod Rank
pub mod Walk
pub mod Limit
pub mod Turn
