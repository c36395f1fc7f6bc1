-- What the private functions of this crate count on while they work: no part of what a reader must believe.
pub mod Premises
pub mod Range
pub mod Task
pub mod Pairs
pub mod Full
