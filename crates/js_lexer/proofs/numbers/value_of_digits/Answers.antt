use Rattle.std.proofs.Common.{◌+◌, sym, arith}
use Rattle.js_lexer.proofs.Digits.{one_more, product_below, too_large}
use Rattle.js_lexer.proofs.numbers.value_of_digits.Goals as goal

pub overflow_mul-value : goal.overflow_mul-value
overflow_mul-value c = omega (arith, product_below c.loop-digit.value c.args.radix c.loop-digit.invariant.1 c.requires.most)

pub overflow_add-value : goal.overflow_add-value
overflow_add-value c = omega (arith, product_below c.loop-digit.value c.args.radix c.loop-digit.invariant.1 c.requires.most)

pub returns-then-value-gt-LARGEST : goal.returns-then-value-gt-LARGEST
returns-then-value-gt-LARGEST c =
    let more = one_more c.args.radix c.loop-digit.value c.args.digits.now c.loop-digit.digit-index c.loop-digit.invariant.0 c.loop-digit-test.true in
    sym (too_large c.args.radix c.args.digits.now (c.loop-digit.digit-index + 1) c.requires.some (omega (arith, more)))

pub loop-digit-preserved : goal.loop-digit-preserved
loop-digit-preserved c =
    let more = one_more c.args.radix c.loop-digit.value c.args.digits.now c.loop-digit.digit-index c.loop-digit.invariant.0 c.loop-digit-test.true in
    (omega (arith, more), omega arith)
