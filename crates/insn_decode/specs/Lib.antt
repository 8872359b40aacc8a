pub mod Decoded
pub mod Slices
pub mod Reading
pub mod Selection
pub mod Shapes
