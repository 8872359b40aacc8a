pub mod Lines
pub mod NotStated
pub mod Reading
pub mod Making
