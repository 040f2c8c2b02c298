pub mod Events
pub mod Laws
pub mod Nodes
pub mod Objects
pub mod Stores
pub mod Trees
pub mod Values
