pub mod Streams
pub mod Loop
pub mod Whole
