pub mod handle
pub mod pointer
