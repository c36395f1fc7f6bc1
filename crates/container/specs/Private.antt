-- What only the private functions of this crate promise: no part of what a reader has to believe.
pub mod Held
pub mod NewForm
pub mod Stepwise
