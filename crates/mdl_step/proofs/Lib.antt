pub mod Unpaged
pub mod EffectLaws
pub mod TaskLaws
pub mod WholeLaws
pub mod StepLaws
pub mod TurnLaws
pub mod BareLaws
