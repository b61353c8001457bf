pub mod drop
pub mod status
