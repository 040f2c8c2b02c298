pub mod Adding
pub mod Cases
pub mod Lookups
pub mod Passed
pub mod Refused
pub mod Taken
pub mod Words
