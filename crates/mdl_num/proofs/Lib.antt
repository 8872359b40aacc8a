pub mod Places
pub mod FlagLemmas
