pub mod Attributes
pub mod Characters
pub mod Laws
pub mod References
pub mod Tags
pub mod Tokens
