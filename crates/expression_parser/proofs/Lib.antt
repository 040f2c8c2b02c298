mod Upcoming
pub mod Joined
pub mod Turns
pub mod Words
