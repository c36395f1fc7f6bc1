pub mod Month
pub mod Stamp
pub mod Private
