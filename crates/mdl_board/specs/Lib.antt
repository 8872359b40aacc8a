pub mod Board
pub mod BytePorts
pub mod WideAccesses
pub mod Wiring
