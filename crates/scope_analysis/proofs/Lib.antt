pub mod Callers
pub mod Repeats
pub mod Rests
pub mod SameNames
pub mod Tables
pub mod UseTables
