pub mod Accepted
pub mod AcceptedTrees
pub mod Callers
pub mod Frames
pub mod StrictScripts
pub mod StrictStatements
