-- What private functions of this crate and of those above it count on: no part of what a reader must believe.
pub mod Activated
pub mod ByKind
