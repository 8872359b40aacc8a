mod Arriving
mod Chains
pub mod Attempts
mod Restarts
