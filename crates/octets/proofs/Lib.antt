pub mod Fronts
pub mod Passed
pub mod Stored
pub mod Filled
pub mod NameRules
pub mod Lowered
pub mod Checked
pub mod Printed
