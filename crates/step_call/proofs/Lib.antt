pub mod Beginning
pub mod Choosing
pub mod Descending
pub mod Passing
pub mod Running
