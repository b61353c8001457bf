pub mod Locate
pub mod Named
pub mod Found
