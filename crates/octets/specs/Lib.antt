pub mod Chars
pub mod Names
pub mod Filled
pub mod Part
