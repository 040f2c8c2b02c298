use Rattle.js_print.proofs.LinedText.{lined_scripts_are_read_again}
use Rattle.js_print.proofs.laws.law_lined_scripts_are_read_again.Goals as goal

pub returns : goal.returns
returns c = lined_scripts_are_read_again
