pub mod Accepted
pub mod Moved
