pub mod At
pub mod Found
pub mod Given
pub mod Places
pub mod Read
pub mod Slot
