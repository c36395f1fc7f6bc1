pub mod Months
pub mod Entries
pub mod Stamps
pub mod Sample
pub mod Fixes
