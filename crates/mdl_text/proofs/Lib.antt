pub mod CommandInputs
pub mod CommandLines
