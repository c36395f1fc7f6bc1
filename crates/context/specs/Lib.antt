pub mod Context
pub mod Sound
pub mod Slots
