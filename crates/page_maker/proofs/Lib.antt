pub mod Appending
pub mod EventLemmas
