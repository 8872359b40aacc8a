pub mod Ways
pub mod Rows
pub mod FirstRegisters
pub mod Pushes
pub mod TaskLaws
