pub mod Laws
pub mod Naming
pub mod Related
pub mod Scope
