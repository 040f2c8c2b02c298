use Rattle.js_print.proofs.Ascii.{text_is_ascii}
use Rattle.js_print.proofs.laws.law_printed_text_is_ascii.Goals as goal

pub returns : goal.returns
returns c = text_is_ascii
