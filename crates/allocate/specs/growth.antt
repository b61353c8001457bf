pub mod Grows
pub mod Ready
