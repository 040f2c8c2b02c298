pub mod Beginnings
pub mod Clauses
pub mod Functions
pub mod Groups
pub mod Whole
