-- What private functions of this crate count on: no part of what a reader must believe.
pub mod Places
pub mod Rows
