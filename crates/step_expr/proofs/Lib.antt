pub mod Callers
pub mod Filling
pub mod InTurn
pub mod Moving
pub mod Opening
