pub mod Begins
pub mod Holding
