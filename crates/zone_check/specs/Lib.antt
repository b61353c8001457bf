pub mod Sought
pub mod Table
pub mod Body
pub mod Header
pub mod Checked
