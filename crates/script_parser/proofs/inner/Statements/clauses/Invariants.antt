use Rattle.std.proofs.Common.{◌≡◌, ◌-◌}
use Rattle.js_grammar.specs.Parser.{repeat, added, many}
use Rattle.js_grammar.specs.StatementReader.{has_more, clause}
use Rattle.expression_parser.specs.Inside.{limit, expression_in, body_in, statement_in}
use Rattle.script_parser.specs.Clauses.{clauses_of}
use Rattle.script_parser.proofs.inner.Statements.clauses.Given as goal

abbrev pub invariant-loop-turn : goal.invariant-loop-turn
invariant-loop-turn g l =
    let depth = l.self.grammar.depth in
    many has_more (clause limit (expression_in depth) (body_in depth) (statement_in depth)) l.fn.tokens ≡ repeat has_more (added (clause limit (expression_in depth) (body_in depth) (statement_in depth))) (l._turn-end - l._turn) (clauses_of l.found.items) l.tokens
