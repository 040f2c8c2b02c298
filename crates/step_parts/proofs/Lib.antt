pub mod ByKind
pub mod Callers
pub mod Combining
pub mod Going
pub mod Leading
pub mod Lowering
pub mod Shapes
