use Rattle.std.proofs.Common.{rules}
use Rattle.js_core.specs.declared.token.Punct.TheVariants.{RightBrace}
use Rattle.js_grammar.specs.ExpressionReader.{comes_before, field}
use Rattle.expression_parser.specs.Inside.{limit, expression_in, body_in}
use Rattle.expression_parser.proofs.grammar.Grammar.fields.Goals as goal

pub returns : goal.returns
returns g c =
    let d = c.args.self.now.depth in
    c.many.ensures (comes_before RightBrace) (field limit (expression_in d) (body_in d)) (λ i r test. search rules) (λ old r new read. search rules)
