pub mod Words
pub mod Paged
pub mod Edited
pub mod Restatus
pub mod Refused
pub mod There
pub mod Laws
