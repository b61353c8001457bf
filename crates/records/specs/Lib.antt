pub mod Records
pub mod Book
pub mod Shown
pub mod Putting
pub mod Code
