use Rattle.std.proofs.Common.{◌≡◌, length}
use Rattle.js_core.specs.Tree.{fields_of}
use Rattle.script_rules.specs.Form.{are_plain_fields}
use Rattle.script_rules.proofs.scope_tests.are_plain_fields.Given as goal

abbrev pub invariant-loop-rest : goal.invariant-loop-rest
invariant-loop-rest l = are_plain_fields (fields_of l.rest) ≡ are_plain_fields (fields_of l.fields)

abbrev pub decreases-loop-rest : goal.decreases-loop-rest
decreases-loop-rest l = length l.rest
