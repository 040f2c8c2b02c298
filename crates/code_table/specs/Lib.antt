pub mod Declarations
pub mod Falls
pub mod Kind
pub mod Node
pub mod Notes
pub mod Rows
pub mod Table
