pub mod Packed
pub mod Ran
