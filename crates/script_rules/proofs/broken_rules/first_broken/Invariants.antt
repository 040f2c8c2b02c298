use Rattle.std.proofs.Common.{◌≡◌, length}
use Rattle.js_core.specs.Tree.{stmts_of}
use Rattle.early_rules.specs.EarlyRules as spec
use Rattle.script_rules.proofs.broken_rules.first_broken.Given as goal

abbrev pub invariant-loop-rest : goal.invariant-loop-rest
invariant-loop-rest l = spec.first_broken l.rest (stmts_of l.statements) ≡ spec.first_broken l.rules (stmts_of l.statements)

abbrev pub decreases-loop-rest : goal.decreases-loop-rest
decreases-loop-rest l = length l.rest
