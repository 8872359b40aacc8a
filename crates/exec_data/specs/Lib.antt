pub mod Failing
pub mod Kinds
pub mod Last
pub mod Places
pub mod Reads
