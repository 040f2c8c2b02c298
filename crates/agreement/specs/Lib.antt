pub mod Acts
pub mod Formed
pub mod Laws
pub mod Opened
pub mod Trees
