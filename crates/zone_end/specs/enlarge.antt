pub mod Enlarge
