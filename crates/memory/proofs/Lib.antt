pub mod Copy
pub mod Slide
pub mod Writes
