pub mod Identifiers
pub mod NameTests
pub mod Names
pub mod Needs
pub mod Nodes
pub mod Scopes
pub mod UseTables
pub mod Uses
