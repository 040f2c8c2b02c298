-- What other crates cite.
pub use Rattle.literal_pages.proofs.Accepted.{accepted_pages_are_literal, script_is_literal}
pub use Rattle.literal_pages.proofs.Bytes.{text_count, text_units, utf8_bytes}
pub use Rattle.literal_pages.proofs.ReadEvents.{read_events_are_literal}
pub use Rattle.literal_pages.proofs.ScriptStatements.{derived_is_literal}
