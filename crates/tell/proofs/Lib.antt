pub mod CheckLaws
pub mod Laws
pub mod Outcomes
pub mod Totals
