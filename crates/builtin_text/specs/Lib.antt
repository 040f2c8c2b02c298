pub mod Methods
pub mod Picks
pub mod Texts
