pub mod Sound
pub mod Counted
pub mod Stored
