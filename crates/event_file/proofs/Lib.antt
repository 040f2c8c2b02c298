pub mod Arrays
pub mod Found
pub mod Keys
pub mod Numbers
pub mod Sound
