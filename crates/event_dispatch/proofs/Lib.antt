pub mod Delivering
pub mod Turning
