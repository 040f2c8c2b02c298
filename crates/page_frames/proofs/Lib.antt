pub mod Callers
pub mod Delivering
pub mod Forms
pub mod Loops
pub mod Stacks
pub mod Starts
pub mod Weights
