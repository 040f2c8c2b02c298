pub mod Command
pub mod Endings
pub mod Laws
pub mod Works
