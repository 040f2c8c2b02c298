use Rattle.std.proofs.Common.{◌≡◌, ◌++◌, drop}
use Rattle.page_meaning.specs.ObjectRows as spec
use Rattle.builtin_object.proofs.own.enumerable_names.Given as goal

abbrev pub invariant-loop-place : goal.invariant-loop-place
invariant-loop-place l = l.names.items ++ spec.enumerable_names (drop l.place (spec.props_at l.state l.at)) ≡ spec.enumerable_names (spec.props_at l.state l.at)
