pub mod Places
pub mod Images
