pub mod Ledger
pub mod Space
pub mod Still
