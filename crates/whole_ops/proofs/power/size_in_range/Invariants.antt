use Rattle.std.proofs.Common.{◌≡◌, ◌^◌, ◌≤◌}
use Rattle.js_core.specs.Whole.{largest}
use Rattle.whole_ops.proofs.power.size_in_range.Given as goal

abbrev pub invariant-loop-turn : goal.invariant-loop-turn
invariant-loop-turn l = (l.size ≡ l.base ^ l._turn) × (l.size ≤ largest)
