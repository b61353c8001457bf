pub mod place
pub mod bay_end
