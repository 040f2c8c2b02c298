use Rattle.std.proofs.Common.{arith, sym, ◌*◌, ◌≤◌}
use Rattle.js_core.specs.Whole.{largest}
use Rattle.whole_ops.proofs.Powers.{past_largest, small_base}
use Rattle.whole_ops.proofs.power.size_in_range.Goals as goal

pub returns-in_default : goal.returns-in_default
returns-in_default c =
    let so_far = c.loop-turn.invariant.0 in
    let past : c.loop-turn.size * c.args.base ≤ largest → ⊥ = c.in_default.ensures in
    past_largest c.args.base c.loop-turn._turn c.args.n c.if-base-lt2.false c.loop-turn-test.true (rw so_far at past)

pub returns-else-n-eq0 : goal.returns-else-n-eq0
returns-else-n-eq0 c =
    let same = small_base c.args.base c.args.n c.if-base-lt2.true c.if-n-eq0.false in
    (rw same (omega arith), sym same)
