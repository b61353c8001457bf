pub mod Chain
pub mod Words
