pub mod Parameters
pub mod Leaving
