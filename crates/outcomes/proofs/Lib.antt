pub mod Answering
pub mod Callers
pub mod Causes
pub mod Limits
pub mod Pieces
