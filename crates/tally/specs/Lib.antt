pub mod Seek
pub mod Say
pub mod Look
pub mod Tally
pub mod Turns
pub mod Named
pub mod Private
