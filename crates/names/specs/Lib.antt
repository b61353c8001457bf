pub mod Mix
pub mod Seen
pub mod Pages
pub mod Tree
pub mod Steps
