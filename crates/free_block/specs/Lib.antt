pub mod Around
pub mod Freed
pub mod Walk
pub mod Extends
