use Rattle.std.proofs.Common.{◌≡◌, length}
use Rattle.js_grammar.specs.Statements.{has_default}
use Rattle.script_parser.specs.Clauses.{clauses_of}
use Rattle.script_parser.proofs.switch.has_default.Given as goal

abbrev pub invariant-loop-rest : goal.invariant-loop-rest
invariant-loop-rest l = has_default (clauses_of l.rest) ≡ has_default (clauses_of l.cases)

abbrev pub decreases-loop-rest : goal.decreases-loop-rest
decreases-loop-rest l = length l.rest
