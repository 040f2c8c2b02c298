pub mod Checking
pub mod Opening
pub mod Page
pub mod Reading
pub mod Replay
pub mod Stages
pub mod Works
