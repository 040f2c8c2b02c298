pub mod Drops
pub mod Lawful
pub mod Parks
pub mod Rows
