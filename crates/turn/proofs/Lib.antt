pub mod Among
pub mod Dirty
pub mod Fronts
pub mod Law
pub mod Ranks
