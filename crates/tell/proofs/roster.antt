pub mod Entries
pub mod Laws
pub mod Order
pub mod Outcomes
