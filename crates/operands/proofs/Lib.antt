pub mod Statuses
pub mod Modes
pub mod Near
pub mod Steadies
pub mod OperandKinds
