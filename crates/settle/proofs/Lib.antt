pub mod Cells
pub mod Any
pub mod Bay
pub mod Compact
pub mod Tidy
