pub mod Overlapping
pub mod Asked
pub mod Enabled
