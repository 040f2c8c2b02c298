pub mod CodedRows
pub mod Numbered
