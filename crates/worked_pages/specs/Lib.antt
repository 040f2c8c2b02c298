pub mod Expressions
pub mod Objects
pub mod Pages
pub mod Statements
pub mod Worked
