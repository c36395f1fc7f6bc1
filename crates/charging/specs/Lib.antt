pub mod Done
pub mod File
pub mod Window
pub mod Turns
