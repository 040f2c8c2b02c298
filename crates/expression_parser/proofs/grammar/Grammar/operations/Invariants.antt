use Rattle.std.proofs.Common.{◌≡◌, ◌-◌}
use Rattle.js_grammar.specs.ExpressionReader.{operations, has_operator, operation}
use Rattle.js_grammar.specs.Parser.{repeat}
use Rattle.expression_parser.specs.Inside.{limit, expression_in, body_in}
use Rattle.expression_parser.proofs.grammar.Grammar.operations.Given as goal

abbrev pub invariant-loop-turn : goal.invariant-loop-turn
invariant-loop-turn g l =
    operations limit (expression_in l.self.depth) (body_in l.self.depth) l.inn l.least l.fn.left l.fn.tokens
    ≡ repeat (has_operator l.inn l.least) (operation limit (expression_in l.self.depth) (body_in l.self.depth) l.inn) (l._turn-end - l._turn) l.left l.tokens
