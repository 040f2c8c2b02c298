-- What other crates use of these proofs.
pub use Rattle.instrumenter.proofs.Each.{Among, Each, Fails, Missing, all_pass, each_always, each_among, each_at, each_both, each_fails, each_parts, each_so, same_name}
pub use Rattle.instrumenter.proofs.Leaving.{Leaving, Staying, among_left, among_parts, among_right, leaving_from, leaving_to, missing_both, missing_parts, name_is_own, own_is_name, staying_to}
pub use Rattle.instrumenter.proofs.NamedUses.{stmts_undeclared}
pub use Rattle.instrumenter.proofs.NodeTests.{stmts_narrow}
pub use Rattle.instrumenter.proofs.OnceNames.{each_field, fields_apart}
