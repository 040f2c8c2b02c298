-- What the crates above use of the proofs here.
pub use Rattle.page_meaning.proofs.Stepping.{heap_of_steps}
