pub mod Moved
pub mod Fill
