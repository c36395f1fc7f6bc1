pub mod Limits
pub mod Sets
