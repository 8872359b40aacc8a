pub mod LogicBounds
pub mod SignedWords
pub mod Divisions
