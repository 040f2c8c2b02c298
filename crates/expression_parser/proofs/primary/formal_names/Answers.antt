use Rattle.std.proofs.Common.{rules}
use Rattle.js_grammar.specs.ExpressionReader.{formal_names, identifier_of}
use Rattle.js_grammar.specs.Parser.{taken}
use Rattle.expression_parser.proofs.primary.formal_names.Goals as goal

pub returns : goal.returns
unfolding formal_names
returns c = c.listed.ensures (taken identifier_of) (λ old r new read. search rules)
