-- What other crates cite.
pub use Rattle.early_rules.proofs.KeptRules.{KeepsRules, none_is_broken, rules_are_kept}
