pub mod Stripped
pub mod Ready
