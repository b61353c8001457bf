pub mod Image
pub mod Replace
pub mod Sound
pub mod Stays
