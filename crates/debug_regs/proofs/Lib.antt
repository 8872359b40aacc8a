pub mod Watching
pub mod Overlaps
pub mod Enabled
