use Rattle.std.proofs.Common.{◌≡◌, ◌++◌, length}
use Rattle.js_core.specs.Views.{declarators_of}
use Rattle.scope_analysis.specs.Names as spec
use Rattle.scope_analysis.proofs.names.push_declarator_names.Given as goal

abbrev pub invariant-loop-rest : goal.invariant-loop-rest
invariant-loop-rest l = l.out.items ++ spec.declarator_names (declarators_of l.rest) ≡ l.initial.out.items ++ spec.declarator_names (declarators_of l.declarators)

abbrev pub decreases-loop-rest : goal.decreases-loop-rest
decreases-loop-rest l = length l.rest
