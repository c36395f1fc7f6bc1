-- What functions that no other crate can name promise.
pub mod Places
