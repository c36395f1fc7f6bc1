mod Starts
pub mod Fixes
