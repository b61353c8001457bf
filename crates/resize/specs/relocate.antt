pub mod Move
pub mod Relocate
