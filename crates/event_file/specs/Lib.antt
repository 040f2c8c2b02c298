pub mod Events
pub mod Items
pub mod Kinds
pub mod Laws
