pub mod ZoneBay
pub mod Masters
pub mod blank
pub mod run
pub mod way
