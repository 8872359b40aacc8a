pub mod Held
pub mod Direct
