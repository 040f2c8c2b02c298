use Rattle.std.proofs.Common.{◌≤◌, w64, unsigned_abs, FitsSigned, ◌∙◌, sym, rules}
use Rattle.std.specs.Int.{int_pow}
use Rattle.std.proofs.lemmas.Int.{to_z-of_z}
use Rattle.js_core.specs.Whole.{largest}
use Rattle.whole_ops.proofs.Powers.{power_past, power_down, power_up}
use Rattle.whole_ops.proofs.power.power.Goals as goal

pub returns-in_default : goal.returns-in_default
returns-in_default c =
    let past : unsigned_abs (int_pow c.args.x (unsigned_abs c.args.n)) ≤ largest → ⊥ =
    rw (c.unsigned_abs.ensures.value, to_z-of_z w64 c.args.x c.ranges.x, to_z-of_z w64 c.args.n c.ranges.n) at c.in_default.ensures in
    power_past c.args.x c.args.n past

pub returns-then-n-lt0 : goal.returns-then-n-lt0
returns-then-n-lt0 c =
    let fits : FitsSigned w64 c.in-Some.power = search rules in
    let power = rw (c.unsigned_abs.ensures.value, to_z-of_z w64 c.args.x c.ranges.x, to_z-of_z w64 c.args.n c.ranges.n) at c.in-Some.ensures in
    let below = rw (to_z-of_z w64 c.args.n c.ranges.n) at c.if-n-lt0.true in
    let gives = rw (to_z-of_z w64 c.in-Some.power fits) at c.quotient.ensures in
    gives ∙ power_down c.args.x c.args.n c.in-Some.power below (sym power.1)

pub returns-else-n-lt0 : goal.returns-else-n-lt0
returns-else-n-lt0 c =
    let fits : FitsSigned w64 c.in-Some.power = search rules in
    let power = rw (c.unsigned_abs.ensures.value, to_z-of_z w64 c.args.x c.ranges.x, to_z-of_z w64 c.args.n c.ranges.n) at c.in-Some.ensures in
    let not_below = rw (to_z-of_z w64 c.args.n c.ranges.n) at c.if-n-lt0.false in
    let gives = rw (to_z-of_z w64 c.in-Some.power fits) at c.whole_or_outside.ensures in
    gives ∙ power_up c.args.x c.args.n c.in-Some.power not_below (sym power.1)
