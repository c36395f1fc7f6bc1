pub mod Qos
pub mod Container
pub mod List
pub mod Open
pub mod Sample
pub mod Private
