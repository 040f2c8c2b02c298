use Rattle.std.proofs.Common.{◌≡◌, ◌+◌, ◌*◌, ◌-◌, true, Some}
use Rattle.js_grammar.specs.declared.operators.Level.TheVariants.{Sequence}
use Rattle.expression_parser.specs.Inside.{expression_in}
use Rattle.script_parser.specs.Groups.{finished}
use Rattle.script_parser.proofs.reading.+inside.Given as goal

abbrev pub decreases-expression_inside : goal.decreases-expression_inside
decreases-expression_inside l = 3 * l.depth.room + 2

abbrev pub decreases-sequence_inside : goal.decreases-sequence_inside
decreases-sequence_inside l = 3 * l.depth.room + 1

abbrev pub decreases-innermost_inside : goal.decreases-innermost_inside
decreases-innermost_inside l = 3 * l.depth.room

abbrev pub decreases-body_inside : goal.decreases-body_inside
decreases-body_inside l = 3 * l.depth.room + 2

abbrev pub decreases-statement_inside : goal.decreases-statement_inside
decreases-statement_inside l = 3 * l.depth.room + 2

abbrev pub invariant-sequence_inside-loop-closed : goal.invariant-sequence_inside-loop-closed
invariant-sequence_inside-loop-closed l = expression_in l.depth true Sequence l.fn.tokens ≡ finished l.depth (l.opened - l.closed) (Some (l.inner, l.tokens))
