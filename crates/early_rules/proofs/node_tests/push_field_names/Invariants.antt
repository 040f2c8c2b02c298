use Rattle.std.proofs.Common.{◌≡◌, ◌++◌, length}
use Rattle.js_core.specs.Tree.{fields_of}
use Rattle.early_rules.specs.EarlyRules as rules
use Rattle.early_rules.proofs.node_tests.push_field_names.Given as goal

abbrev pub invariant-loop-rest : goal.invariant-loop-rest
invariant-loop-rest l = l.out.items ++ rules.field_names (fields_of l.rest) ≡ l.initial.out.items ++ rules.field_names (fields_of l.fields)

abbrev pub decreases-loop-rest : goal.decreases-loop-rest
decreases-loop-rest l = length l.rest
