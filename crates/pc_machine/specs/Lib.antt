pub mod Settled
pub mod Builds
pub mod Runs
pub mod EventLaws
pub mod CutLaws
