pub mod surgery
