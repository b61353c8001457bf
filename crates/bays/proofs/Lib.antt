pub mod At
pub mod Given
pub mod High
pub mod Searches
pub mod Slots
pub mod Walk
pub mod Words
pub mod Zone
