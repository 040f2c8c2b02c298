-- Lemmas for the crates of the commands.
pub use Rattle.migrate.proofs.Lawful.{large, light, movable, moving_decided, moving_exclusive}
pub use Rattle.migrate.proofs.Outcomes.{large_or_little, one_weight, some_outcome}
