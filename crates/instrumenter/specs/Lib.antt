pub mod Around
pub mod Counting
pub mod Fields
pub mod Laws
pub mod Levels
pub mod Opened
pub mod Opening
