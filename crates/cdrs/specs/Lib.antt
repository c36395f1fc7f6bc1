pub mod Cdr
pub mod List
