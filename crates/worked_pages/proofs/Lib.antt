pub mod Pages
pub mod Scripts
