use Rattle.std.proofs.Common.{◌≡◌, ◌++◌, length}
use Rattle.js_core.specs.Views.{declarators_of}
use Rattle.code_table.specs.Declarations.{declarator_names}
use Rattle.code_numbering.proofs.variables.push_declarators.Given as goal

abbrev pub invariant-loop-rest : goal.invariant-loop-rest
invariant-loop-rest l = l.out.items ++ declarator_names (declarators_of l.rest) ≡ l.initial.out.items ++ declarator_names (declarators_of l.ds)

abbrev pub decreases-loop-rest : goal.decreases-loop-rest
decreases-loop-rest l = length l.rest
