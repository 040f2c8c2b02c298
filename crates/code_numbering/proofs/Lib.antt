pub mod Finished
pub mod Held
pub mod Joins
