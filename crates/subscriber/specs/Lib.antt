pub mod Subscriber
pub mod Sound
pub mod Hear
pub mod Tell
pub mod Held
pub mod Private
