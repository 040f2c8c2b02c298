use Rattle.js_grammar.specs.ExpressionReader.{all}
use Rattle.expression_parser.specs.Inside.{expression_in, body_in}
use Rattle.expression_parser.proofs.Joined.{joins_read}
use Rattle.expression_parser.proofs.grammar.Grammar.all.Goals as goal

pub returns : goal.returns
unfolding all
returns g c =
    let d = c.args.self.now.depth in
    rw c.in_ok-parts.ensures (joins_read (expression_in d) (body_in d) c.in_ok-parts.parts.items c.joined.result c.items.new.tokens c.joined.ensures)
