use Rattle.std.proofs.Common.{◌≡◌, length}
use Rattle.js_core.specs.Tree.{stmts_of}
use Rattle.script_rules.specs.Form as spec
use Rattle.script_rules.proofs.form.has_inner_declaration.Given as goal

abbrev pub invariant-loop-rest : goal.invariant-loop-rest
invariant-loop-rest l = spec.has_inner_declaration (stmts_of l.rest) ≡ spec.has_inner_declaration (stmts_of l.statements)

abbrev pub decreases-loop-rest : goal.decreases-loop-rest
decreases-loop-rest l = length l.rest
