pub mod Change
pub mod Changes
pub mod Rules
pub mod Table
pub mod Layout
pub mod Answers
pub mod Sample
pub mod Private
