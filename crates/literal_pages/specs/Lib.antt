pub mod Literal
pub mod Written
