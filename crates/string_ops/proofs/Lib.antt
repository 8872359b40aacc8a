pub mod Permissions
pub mod Inputs
pub mod Counts
