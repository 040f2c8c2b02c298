-- What other crates use of these proofs.
pub use Rattle.js_print.proofs.LinedText.{ended_scripts_are_read_again, lined_scripts_are_read_again}
pub use Rattle.js_print.proofs.ReadAgain.{script_is_read_again}
