pub mod Faring
pub mod Lawful
