pub mod Checked
pub mod PlaceLaws
pub mod Among
pub mod Size
pub mod Named
