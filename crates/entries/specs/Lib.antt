pub mod Entry
pub mod Steps
pub mod Read
