pub mod Fixes
pub mod Moves
