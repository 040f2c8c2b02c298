pub mod Again
pub mod Frames
pub mod Laws
pub mod Rebuilt
pub mod Running
pub mod Scene
pub mod Sites
