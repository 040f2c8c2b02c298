pub mod Faring
pub mod Stress
pub mod Works
