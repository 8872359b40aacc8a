pub mod Trees
pub mod Grammar
pub mod PrefixEnds
pub mod Tables
mod Listings
