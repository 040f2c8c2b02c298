use Rattle.std.proofs.Common.{◌+◌, arith}
use Rattle.page_tokens.proofs.Digits.{both_too_large, no_reference, one_more, product_below}
use Rattle.page_tokens.proofs.references.value_of.Goals as goal

pub overflow_mul-value : goal.overflow_mul-value
overflow_mul-value c = omega (arith, product_below c.loop-digit.value c.args.radix c.loop-digit.invariant.1 c.requires.most)

pub overflow_add-value : goal.overflow_add-value
overflow_add-value c = omega (arith, product_below c.loop-digit.value c.args.radix c.loop-digit.invariant.1 c.requires.most)

pub returns-then-value-gt-LARGEST : goal.returns-then-value-gt-LARGEST
returns-then-value-gt-LARGEST c =
    let more = one_more c.args.radix c.loop-digit.value c.args.digits.now c.loop-digit.digit-index c.loop-digit.invariant.0 c.loop-digit-test.true in
    record {
      known = both_too_large c.args.radix _ c.args.digits.now (c.loop-digit.digit-index + 1) c.requires.some (omega (arith, more)) c.if-value-gt-LARGEST.true;
      same = no_reference _ _ c.if-value-gt-LARGEST.true;
    }

pub loop-digit-preserved : goal.loop-digit-preserved
loop-digit-preserved c =
    let more = one_more c.args.radix c.loop-digit.value c.args.digits.now c.loop-digit.digit-index c.loop-digit.invariant.0 c.loop-digit-test.true in
    (omega (arith, more), omega arith)
