pub mod Flat
pub mod Gap
pub mod Stands
pub mod Drop
pub mod Going
pub mod Turn
pub mod Loop
