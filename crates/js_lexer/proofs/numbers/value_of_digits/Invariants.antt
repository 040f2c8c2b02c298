use Rattle.std.proofs.Common.{◌≡◌, ◌≤◌, take}
use Rattle.std.specs.Str.Parse.{digits_value}
use Rattle.js_core.specs.Whole.{largest}
use Rattle.js_lexer.proofs.numbers.value_of_digits.Given as goal

abbrev pub invariant-loop-digit : goal.invariant-loop-digit
invariant-loop-digit l = (l.value ≡ digits_value l.radix (take l.digit-index l.digits)) × (l.value ≤ largest)
