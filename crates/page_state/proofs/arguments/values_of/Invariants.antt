use Rattle.std.proofs.Common.{◌≡◌, take}
use Rattle.page_state.proofs.arguments.values_of.Given as goal

abbrev pub invariant-loop-value : goal.invariant-loop-value
invariant-loop-value l = l.items.items ≡ take l.value-index l.values
