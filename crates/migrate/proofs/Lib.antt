pub mod AnyMoves
pub mod Callers
pub mod Judgement
pub mod Lawful
pub mod Moves
pub mod Outcomes
pub mod Walking
