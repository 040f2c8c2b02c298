use Rattle.js_print.proofs.ReadAgain.{script_is_read_again}
use Rattle.js_print.proofs.laws.law_printed_scripts_are_read_again.Goals as goal

pub returns : goal.returns
returns c = script_is_read_again
