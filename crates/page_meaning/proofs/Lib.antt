pub mod Ages
pub mod Beginning
pub mod Callers
pub mod Keeping
pub mod Stepping
