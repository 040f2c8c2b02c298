pub mod Asks
pub mod Laws
pub mod Trees
