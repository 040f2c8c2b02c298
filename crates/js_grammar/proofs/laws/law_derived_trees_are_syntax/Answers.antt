use Rattle.js_grammar.proofs.SyntaxScripts.{derived_is_syntax}
use Rattle.js_grammar.proofs.laws.law_derived_trees_are_syntax.Goals as goal

pub returns : goal.returns
returns c = derived_is_syntax
