pub mod Structure
pub mod Valid
pub mod IsZone
