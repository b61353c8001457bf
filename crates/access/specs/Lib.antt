pub mod Checked
pub mod Edit
pub mod Named
pub mod row
pub mod locate
pub mod rows
