use Rattle.std.proofs.Common.{w64}
use Rattle.std.proofs.lemmas.Int.{quot_is, to_z-of_z}
use Rattle.whole_ops.specs.Arithmetic.{is_zero}
use Rattle.std.proofs.Common.{◌≡◌, int_rem, true, false}
use Rattle.whole_ops.proofs.Quotients.{quot_fits, rem_fits, is_zero_yes, is_zero_no}
use Rattle.whole_ops.proofs.arithmetic.quotient.Goals as goal

pub returns : goal.returns
returns c =
    let x = c.args.x in
    let y = c.args.y in
    let q = quot_is w64 x y c.ranges.x c.ranges.y (quot_fits x y c.requires) in
    let whole = rw q at c.whole_or_outside.ensures in
    let divisor : is_zero y ≡ false = is_zero_no y c.if-y-eq0.false in
    let bits = rw (to_z-of_z w64 x c.ranges.x, to_z-of_z w64 y c.ranges.y) at c.if-x-y-ne0.false in
    let exact : is_zero (int_rem x y) ≡ true = is_zero_yes (int_rem x y) (rem_fits x y c.requires) bits in
    rw (divisor, exact) whole
