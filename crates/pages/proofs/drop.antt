pub mod Live
pub mod Laws
