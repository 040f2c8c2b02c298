pub mod Acting
pub mod CodedActing
pub mod Elements
