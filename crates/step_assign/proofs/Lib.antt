pub mod Changing
pub mod Naming
pub mod Targeting
