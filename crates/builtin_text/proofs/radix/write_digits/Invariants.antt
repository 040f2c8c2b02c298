use Rattle.std.proofs.Common.{◌≡◌, ◌≤◌, drop, false, length}
use Rattle.std.specs.Fmt.{digits, digits_onto}
use Rattle.builtin_text.proofs.radix.write_digits.Given as goal

-- what is left to be written goes before what was written
abbrev pub invariant-loop-start : goal.invariant-loop-start
invariant-loop-start l =
    (l.start ≤ 64) × (length l.out ≡ 64) × (digits_onto l.start l.radix false l.rest (drop l.start l.out) ≡ digits l.radix false l.number)

abbrev pub decreases-loop-start : goal.decreases-loop-start
decreases-loop-start l = l.start
