use Rattle.js_grammar.proofs.PartedScripts.{line_ends_are_harmless}
use Rattle.js_grammar.proofs.laws.law_line_ends_are_harmless.Goals as goal

pub returns : goal.returns
returns c = line_ends_are_harmless
