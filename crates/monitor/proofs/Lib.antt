pub mod Commands
pub mod LineEnds
pub mod Numbers
pub mod Rows
pub mod Codes
pub mod Steps
pub mod Sessions
pub mod LineAnswers
