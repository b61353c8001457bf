pub mod Constants
pub mod Types
