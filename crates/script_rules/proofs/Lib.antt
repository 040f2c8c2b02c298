pub mod Callees
pub mod Callers
pub mod LowFunctions
pub mod Steps
