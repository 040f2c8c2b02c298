-- What the crates above use of the proofs here.
pub use Rattle.js_core.proofs.Causes.{handed, shown}
