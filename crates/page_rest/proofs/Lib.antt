-- What every function in a script of a form page is, in a call that binds its needed variables, that pages in form are at rest, and that each page has a walk.
pub mod AskedTrees
pub mod Assigning
pub mod Formed
pub mod FormParts
pub mod LowTrees
pub mod NeededNames
pub mod Pieces
pub mod Quiet
pub mod Reached
pub mod Remaking
pub mod Resting
pub mod Tests
pub mod Trees
pub mod Walked
pub mod Wrapped
