-- Lemmas for the crates of the commands.
pub use Rattle.read_files.proofs.Endings.{passes_reading, told_accepted_as, told_both}
pub use Rattle.read_files.proofs.Lawful.{AnswersAreOne, after_reading, held_both, read_both, reading_decided_before, reading_exclusive_before}
