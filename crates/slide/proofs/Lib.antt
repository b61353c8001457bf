pub mod Cases
pub mod Master
pub mod MasterLaws
pub mod Change
pub mod One
pub mod Compact
