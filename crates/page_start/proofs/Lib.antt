pub mod FunctionTables
pub mod NodeObjects
pub mod Youngest
