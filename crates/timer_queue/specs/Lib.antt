pub mod Laws
pub mod Marks
pub mod Sound
pub mod Timely
pub mod Timers
pub mod Worked
