pub mod Moves
pub mod Moving
pub mod Saving
pub mod Stage
