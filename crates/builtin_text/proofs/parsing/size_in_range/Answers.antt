use Rattle.std.proofs.Common.{◌+◌, ◌*◌}
use Rattle.builtin_text.proofs.DigitSizes.{one_more, too_large}
use Rattle.builtin_text.proofs.parsing.size_in_range.Goals as goal

pub returns-then-size-gt-LARGEST : goal.returns-then-size-gt-LARGEST
returns-then-size-gt-LARGEST c =
    let radix = c.args.radix in
    let digits = c.args.digits.now in
    let i = c.loop-digit.digit-index in
    let more = one_more radix digits i c.loop-digit.size c.value_of_digit.result c.loop-digit-test.true c.loop-digit.invariant.0 c.value_of_digit.ensures in
    too_large radix digits (i + 1) (c.loop-digit.size * radix + c.value_of_digit.result) c.requires.low more c.if-size-gt-LARGEST.true

pub loop-digit-preserved : goal.loop-digit-preserved
loop-digit-preserved c =
    let more = one_more c.args.radix c.args.digits.now c.loop-digit.digit-index c.loop-digit.size c.value_of_digit.result c.loop-digit-test.true c.loop-digit.invariant.0 c.value_of_digit.ensures in
    (more, c.if-size-gt-LARGEST.false)
