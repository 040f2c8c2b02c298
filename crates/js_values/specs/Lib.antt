pub mod Event
pub mod Line
pub mod Throw
pub mod Worked
