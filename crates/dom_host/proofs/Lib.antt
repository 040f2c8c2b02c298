pub mod Asked
pub mod Settling
pub mod Unbuilt
