use Rattle.js_grammar.proofs.ReadingIsGrammar.{one_script}
use Rattle.js_grammar.proofs.laws.law_one_script.Goals as goal

pub returns : goal.returns
returns c = one_script
