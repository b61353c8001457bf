pub mod census
pub mod strata
pub mod walker
