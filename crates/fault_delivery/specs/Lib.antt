pub mod Arrivals
pub mod GateAttempts
