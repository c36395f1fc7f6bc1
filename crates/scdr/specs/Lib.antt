pub mod Rules
pub mod Table
pub mod Layout
pub mod Sample
pub mod Answers
pub mod Apn
pub mod Private
