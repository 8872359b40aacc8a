pub mod Sizes
pub mod Flags
pub mod Sums
pub mod Products
pub mod Decimal
pub mod Shifts
pub mod Rotates
pub mod Bits
