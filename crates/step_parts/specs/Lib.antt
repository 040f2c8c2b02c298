pub mod Families
pub mod Operands
pub mod Running
