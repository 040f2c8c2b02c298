use Rattle.std.proofs.Common.{rules, arith}
use Rattle.std.proofs.lemmas.Grind.{common_steps}
use Rattle.js_grammar.specs.ExpressionReader.{one}
use Rattle.expression_parser.specs.Inside.{limit, expression_in, body_in}
use Rattle.expression_parser.proofs.grammar.Grammar.more_items.Goals as goal

pub returns : goal.returns
returns g c =
    let d = c.args.self.now.depth in
    let f = c.further.ensures (one limit (expression_in d) (body_in d) c.args.inn) (λ old r new read. search rules) in
    first_of (search rules, grind (arith, common_steps))
