-- What other crates cite.
pub use Rattle.scope_chains.proofs.Entered.{arguments_bound, entry_bound, names_bound, same_declarators, same_init, same_target}
