pub mod Callers
pub mod Changing
pub mod Counted
pub mod Family
pub mod Marking
pub mod Moving
pub mod Numbered
pub mod Standing
