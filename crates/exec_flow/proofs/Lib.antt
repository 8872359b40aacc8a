pub mod Targets
pub mod Direction
pub mod Levels
pub mod Orders
