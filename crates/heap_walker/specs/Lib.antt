pub mod Heard
pub mod Laws
pub mod Remade
pub mod Still
pub mod Things
pub mod Walking
pub mod Weight
