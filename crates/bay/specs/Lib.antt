pub mod Bay
pub mod Bytes
pub mod Sound
pub mod Choice
pub mod Counted
pub mod Ends
