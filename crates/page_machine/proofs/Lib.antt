pub mod Callers
pub mod Families
pub mod Passing
pub mod Scripts
pub mod Turning
