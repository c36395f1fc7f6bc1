-- What only the private functions of this crate promise one another: no part of what a reader has to believe.
pub mod List
pub mod Parts
pub mod Pieces
