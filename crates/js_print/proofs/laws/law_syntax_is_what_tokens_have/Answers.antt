use Rattle.js_grammar.proofs.Callers.{derived_is_syntax}
use Rattle.js_print.proofs.PrintedScripts.{syntax_has_tokens}
use Rattle.js_print.proofs.laws.law_syntax_is_what_tokens_have.Goals as goal

pub returns-clause-has_tokens : goal.returns-clause-has_tokens
returns-clause-has_tokens c = syntax_has_tokens

pub returns-clause-of_tokens : goal.returns-clause-of_tokens
returns-clause-of_tokens c = derived_is_syntax
