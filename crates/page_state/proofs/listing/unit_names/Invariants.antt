use Rattle.std.proofs.Common.{◌≡◌, ◌++◌, drop}
use Rattle.page_meaning.specs.Loops as spec
use Rattle.page_state.proofs.listing.unit_names.Given as goal

abbrev pub invariant-loop-place : goal.invariant-loop-place
invariant-loop-place l = l.names.items ++ spec.unit_names l.place (drop l.place l.units) ≡ spec.unit_names 0 l.units
