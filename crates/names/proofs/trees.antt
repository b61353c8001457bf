pub mod Search
pub mod More
pub mod Fresh
