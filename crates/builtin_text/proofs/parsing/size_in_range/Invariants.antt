use Rattle.std.proofs.Common.{◌≡◌, ◌≤◌, take}
use Rattle.std.specs.Str.Parse.{digits_value}
use Rattle.js_core.specs.Whole.{largest}
use Rattle.builtin_text.proofs.parsing.size_in_range.Given as goal

abbrev pub invariant-loop-digit : goal.invariant-loop-digit
invariant-loop-digit l = (l.size ≡ digits_value l.radix (take l.digit-index l.digits)) × (l.size ≤ largest)
