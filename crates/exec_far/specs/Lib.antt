pub mod Arrivals
pub mod Transfers
