pub mod Callers
pub mod KeptRules
