pub mod Lawful
pub mod Little
pub mod Obeyed
pub mod PartCounts
pub mod Performed
pub mod Saved
