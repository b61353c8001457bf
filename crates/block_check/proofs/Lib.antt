pub mod Leaves
pub mod Word
