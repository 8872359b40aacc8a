pub mod Sound
pub mod SoundLaws
pub mod Rom
