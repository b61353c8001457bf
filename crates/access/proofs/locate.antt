pub mod Among
pub mod Live
pub mod Laws
pub mod Data
pub mod Pages
pub mod Sought
pub mod Offset
pub mod Handle
