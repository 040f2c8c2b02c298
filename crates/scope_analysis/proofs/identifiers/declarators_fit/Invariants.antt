use Rattle.std.proofs.Common.{◌≡◌, length}
use Rattle.std.specs.List.{list_any}
use Rattle.js_core.specs.Views.{declarators_of}
use Rattle.scope_analysis.specs.NameTests.{fits}
use Rattle.scope_analysis.specs.Names.{declarator_names}
use Rattle.scope_analysis.proofs.identifiers.declarators_fit.Given as goal

abbrev pub invariant-loop-rest : goal.invariant-loop-rest
invariant-loop-rest l = list_any (fits l.test) (declarator_names (declarators_of l.rest)) ≡ list_any (fits l.test) (declarator_names (declarators_of l.declarators))

abbrev pub decreases-loop-rest : goal.decreases-loop-rest
decreases-loop-rest l = length l.rest
