pub mod Going
pub mod Making
pub mod Seeking
