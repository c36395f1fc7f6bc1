pub mod Joins
pub mod Firsts
pub mod Windows
pub mod Cuts
pub mod Steps
pub mod Goes
pub mod Rooms
pub mod Fixes
