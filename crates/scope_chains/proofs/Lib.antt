pub mod Among
pub mod Callers
pub mod Entered
pub mod Found
pub mod Stay
