use Rattle.std.proofs.Common.{rules, true}
use Rattle.js_grammar.specs.ExpressionReader.{arguments}
use Rattle.js_grammar.specs.declared.operators.Level.TheVariants.{Assignment}
use Rattle.expression_parser.specs.Inside.{expression_in}
use Rattle.expression_parser.proofs.grammar.Grammar.arguments.Goals as goal

pub returns : goal.returns
unfolding arguments
returns g c = c.listed.ensures (expression_in c.args.self.now.depth true Assignment) (λ old r new read. search rules)
