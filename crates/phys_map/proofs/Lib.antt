pub mod Pages
pub mod InRam
pub mod InRom
