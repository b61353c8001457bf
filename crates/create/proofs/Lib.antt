pub mod Number
pub mod Place
pub mod Room
pub mod Made
