pub mod growth
pub mod relocatable
pub mod fixed
