pub mod Coming
pub mod OtherRows
pub mod Starting
