use Rattle.std.proofs.Common.{ap, ◌∙◌, false, arith}
use Rattle.std.specs.Fmt.{digits_onto}
use Rattle.std.proofs.Math.ListN.{drop_of_length-le}
use Rattle.builtin_text.proofs.Written.{nothing_written}
use Rattle.builtin_text.proofs.radix.write_digits.Goals as goal

pub loop-start-init : goal.loop-start-init
loop-start-init c = (
  omega arith,
  c.told-out,
  ap (digits_onto 64 c.args.radix false c.args.number) (drop_of_length-le c.args.out.now {i = 64} (omega (arith, c.told-out))) ∙ nothing_written c.args.radix c.args.number,
)
