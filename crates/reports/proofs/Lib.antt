pub mod Listings
pub mod Screen
