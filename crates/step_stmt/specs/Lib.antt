pub mod Cases
pub mod Ends
pub mod Turns
pub mod Visits
