pub mod Exits
pub mod Stands
pub mod Walks
pub mod Theorems
pub mod Counting
pub mod Reading
pub mod Fixes
