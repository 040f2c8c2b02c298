use Rattle.std.proofs.Common.{rules}
use Rattle.js_grammar.specs.StatementReader as reader
use Rattle.js_grammar.specs.StatementReader.{has_more, elements}
use Rattle.expression_parser.specs.Inside.{limit, expression_in, body_in, statement_in}
use Rattle.script_parser.proofs.inner.Statements.elements.Goals as goal

pub returns : goal.returns
unfolding elements
returns g c =
    let depth = c.args.self.now.grammar.depth in
    c.many.ensures has_more (reader.element limit (expression_in depth) (body_in depth) (statement_in depth)) (λ i r test. search rules) (λ old r new read. search rules)
