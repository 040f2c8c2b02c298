-- What other crates cite.
pub use Rattle.printed_pages.proofs.Accepted.{ScriptPages, framed_scripts_are_accepted}
pub use Rattle.printed_pages.proofs.AcceptedTrees.{TextsHaveUnits, accepted_scripts_have_syntax}
pub use Rattle.printed_pages.proofs.Frames.{Same, all_stay, no_end_tag, same_units, stays, units_join, with_same, zero_free}
pub use Rattle.printed_pages.proofs.StrictScripts.{accepted_scripts_begin_strict}
