pub mod Values
pub mod Cdrs
pub mod Listed
