pub mod Placed
pub mod Ready
