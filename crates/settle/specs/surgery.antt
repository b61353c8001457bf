pub mod Bays
pub mod Masters
