-- What other crates cite.
pub use Rattle.scope_analysis.proofs.Rests.{next_of}
pub use Rattle.scope_analysis.proofs.UseTables.{any_reserved, needed_names, noted_append}
