pub mod Hosted
pub mod Laws
pub mod Links
pub mod Shapes
