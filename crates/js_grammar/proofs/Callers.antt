-- What other crates use of these proofs.
pub use Rattle.js_grammar.proofs.SyntaxScripts.{same_one_default, derived_is_syntax}
pub use Rattle.js_grammar.proofs.PartedScripts.{line_ends_are_harmless}
pub use Rattle.js_grammar.proofs.Beginnings.{can_begin}
pub use Rattle.js_grammar.proofs.Continues.{operators_and_suffixes_go_on, token_goes_on}
