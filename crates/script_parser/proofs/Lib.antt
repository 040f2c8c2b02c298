pub mod Beginnings
pub mod Clauses
pub mod Ends
mod Groups
pub mod Lists
pub mod Turns
pub mod Whole
