pub mod Settling
pub mod Bursts
