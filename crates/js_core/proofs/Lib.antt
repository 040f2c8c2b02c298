pub mod Callers
mod Causes
mod Dropping
mod Spelling
mod Worked
