-- What private functions count on among themselves. No public promise speaks of it, so it is no part of what a reader must believe.
pub mod Bound
pub mod Table
pub mod Date
