pub mod Holding
pub mod Serving
pub mod Direct
