pub mod Near
pub mod Stacked
pub mod Followed
