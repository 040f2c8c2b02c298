use Rattle.std.proofs.Common.{◌≡◌, true}
use Rattle.js_grammar.specs.declared.operators.Level.TheVariants.{Sequence}
use Rattle.expression_parser.specs.Inside.{expression_in}
use Rattle.expression_parser.specs.Nestings.{in_groups}
use Rattle.script_parser.specs.Groups.{finished}
use Rattle.script_parser.proofs.reading.open_groups.Given as goal

abbrev pub invariant-loop-opened : goal.invariant-loop-opened
invariant-loop-opened l = expression_in l.depth true Sequence l.fn.tokens ≡ finished l.depth l.opened (expression_in (in_groups l.depth l.opened) true Sequence l.tokens)
