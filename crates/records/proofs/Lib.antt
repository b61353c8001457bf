pub mod Acts
pub mod Chunk
pub mod Chunks
pub mod Decimal
pub mod Example
pub mod Printing
pub mod Split
pub mod Booking
