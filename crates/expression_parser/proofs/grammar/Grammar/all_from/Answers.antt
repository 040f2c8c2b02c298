use Rattle.js_grammar.specs.ExpressionReader.{all_from}
use Rattle.expression_parser.specs.Inside.{expression_in, body_in}
use Rattle.expression_parser.proofs.Joined.{joins_read}
use Rattle.expression_parser.proofs.grammar.Grammar.all_from.Goals as goal

pub returns : goal.returns
unfolding all_from
returns g c =
    let d = c.args.self.now.depth in
    rw c.in_ok-parts.ensures (joins_read (expression_in d) (body_in d) c.in_ok-parts.parts.items c.joined.result c.more_items.new.tokens c.joined.ensures)
