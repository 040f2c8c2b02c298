pub mod Keeping
pub mod Rows
pub mod Stages
pub mod Works
