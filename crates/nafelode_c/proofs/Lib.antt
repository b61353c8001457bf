pub mod Laws
pub mod NoValue
pub mod Words
