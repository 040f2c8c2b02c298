use Rattle.js_grammar.proofs.Continues.{operators_and_suffixes_go_on}
use Rattle.js_grammar.proofs.laws.law_operators_and_suffixes_go_on.Goals as goal

pub returns : goal.returns
returns c = operators_and_suffixes_go_on
