pub mod Whole
pub mod Memory
