pub mod Callers
pub mod Endings
pub mod Lawful
pub mod Refusals
