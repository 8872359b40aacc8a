pub mod PortStrings
pub mod Repeats
pub mod Kinds
