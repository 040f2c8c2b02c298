pub mod Accepted
pub mod Json
pub mod Read
pub mod Rules
pub mod Script
pub mod Sizes
pub mod Syntax
pub mod Texts
