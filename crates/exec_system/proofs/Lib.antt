pub mod WholeOwn
pub mod Outcomes
