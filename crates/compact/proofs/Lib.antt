pub mod Next
pub mod Going
pub mod Loop
pub mod Call
pub mod Outcome
