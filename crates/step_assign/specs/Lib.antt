pub mod Targets
pub mod Waiting
