use Rattle.std.proofs.Common.{◌≡◌, ◌++◌, take}
use Rattle.std.specs.List.{flat_map}
use Rattle.page_state.specs.LineTexts.{spaced}
use Rattle.page_state.proofs.state.State.push_spaced.Given as goal

abbrev pub invariant-loop-value : goal.invariant-loop-value
invariant-loop-value l = l.out.items ≡ l.initial.out.items ++ flat_map (spaced l.self) (take l.value-index l.values)
