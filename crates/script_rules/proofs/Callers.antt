-- What other crates cite.
pub use Rattle.script_rules.proofs.LowFunctions.{expr_has_no_high_function, has_no_high_function}
