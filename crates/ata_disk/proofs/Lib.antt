pub mod Sectors
pub mod IdentifyLaws
pub mod Verified
pub mod ImageLaws
pub mod Kept
