pub mod Events
pub mod Generator
pub mod Page
