pub mod Lawful
pub mod Notes
pub mod Numbers
pub mod Seen
pub mod Stages
pub mod Status
pub mod Work
