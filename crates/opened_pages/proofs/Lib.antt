pub mod Accepted
pub mod Rules
pub mod SameLines
pub mod Texts
