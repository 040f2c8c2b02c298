use Rattle.std.proofs.Common.{◌≡◌, ◌-◌}
use Rattle.js_grammar.specs.ExpressionReader.{suffixes, has_suffix, suffix}
use Rattle.js_grammar.specs.Parser.{repeat}
use Rattle.expression_parser.specs.Inside.{limit, expression_in, body_in}
use Rattle.expression_parser.proofs.grammar.Grammar.suffixes.Given as goal

abbrev pub invariant-loop-turn : goal.invariant-loop-turn
invariant-loop-turn g l =
    suffixes limit (expression_in l.self.depth) (body_in l.self.depth) l.calls l.fn.left l.fn.tokens
    ≡ repeat (has_suffix l.calls) (suffix limit (expression_in l.self.depth) (body_in l.self.depth)) (l._turn-end - l._turn) l.left l.tokens
