pub mod Masters
pub mod Trimmed
pub mod Taken
pub mod Kept
pub mod Zone
pub mod Found
pub mod End
