use Rattle.std.proofs.Common.{◌≡◌, length}
use Rattle.js_core.specs.Tree.{stmts_of}
use Rattle.early_rules.specs.EarlyRules as spec
use Rattle.script_rules.proofs.broken_rules.redeclares_global.Given as goal

abbrev pub invariant-loop-rest : goal.invariant-loop-rest
invariant-loop-rest l = spec.redeclares_global (stmts_of l.rest) ≡ spec.redeclares_global (stmts_of l.statements)

abbrev pub decreases-loop-rest : goal.decreases-loop-rest
decreases-loop-rest l = length l.rest
