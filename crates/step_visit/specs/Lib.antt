pub mod Advancing
pub mod Finding
pub mod Stopping
pub mod Telling
