pub mod Callers
mod Made
mod Names
mod Plain
mod Registered
pub mod Staying
mod Texts
mod Times
