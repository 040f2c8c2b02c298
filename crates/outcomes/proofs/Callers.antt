-- Lemmas for the crates of the commands.
pub use Rattle.outcomes.proofs.Limits.{at_most_or_more}
pub use Rattle.outcomes.proofs.Answering.{answered, ends_within, ends_behind, passes_both, not_usage, refused, rose_later}
pub use Rattle.outcomes.proofs.Causes.{causes_exclude, ends_well, of_both, of_rows, of_table, of_held, some_cause}
