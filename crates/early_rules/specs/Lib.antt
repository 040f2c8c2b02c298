pub mod EarlyRules
pub mod FormNodes
pub mod Jumps
pub mod Limits
pub mod NodeTests
