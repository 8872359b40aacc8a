pub mod Filled
pub mod Given
pub mod Kept
pub mod Numbers
pub mod Rules
