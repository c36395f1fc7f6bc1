pub mod Charging
pub mod Attaching
pub mod Once
pub mod Activations
pub mod Attachments
