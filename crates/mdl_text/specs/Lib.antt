pub mod Script
pub mod ScriptLaws
pub mod Demo
pub mod DemoLaws
pub mod CommandInput
pub mod CommandLine
