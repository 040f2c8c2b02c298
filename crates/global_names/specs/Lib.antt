pub mod Names
pub mod Worked
