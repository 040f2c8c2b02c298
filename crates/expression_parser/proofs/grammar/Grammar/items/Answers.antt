use Rattle.std.proofs.Common.{rules}
use Rattle.js_grammar.specs.ExpressionReader.{one}
use Rattle.expression_parser.specs.Inside.{limit, expression_in, body_in}
use Rattle.expression_parser.proofs.grammar.Grammar.items.Goals as goal

pub returns : goal.returns
returns g c =
    let d = c.args.self.now.depth in
    c.separated.ensures (one limit (expression_in d) (body_in d) c.args.inn) (λ old r new read. search rules)
