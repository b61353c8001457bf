pub mod enlarge
pub mod shrink
