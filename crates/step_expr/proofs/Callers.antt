-- What the crate of the machine cites.
pub use Rattle.step_expr.proofs.Opening.{opens_moved}
