pub mod Form
pub mod FormScripts
pub mod ScopeTests
pub mod Variables
