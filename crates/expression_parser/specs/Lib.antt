pub mod Groups
pub mod Inside
pub mod Nestings
pub mod Reads
pub mod Upcoming
