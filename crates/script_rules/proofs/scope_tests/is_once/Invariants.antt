use Rattle.std.proofs.Common.{◌≡◌, length}
use Rattle.script_rules.specs.Form.{is_once}
use Rattle.script_rules.proofs.scope_tests.is_once.Given as goal

abbrev pub invariant-loop-rest : goal.invariant-loop-rest
invariant-loop-rest l = is_once l.name l.rest ≡ is_once l.name l.names

abbrev pub decreases-loop-rest : goal.decreases-loop-rest
decreases-loop-rest l = length l.rest
