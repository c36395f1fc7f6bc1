-- The sample node meets the demand, of both kinds.
pub mod Lines
pub mod Guests
pub mod Node
pub mod Session
