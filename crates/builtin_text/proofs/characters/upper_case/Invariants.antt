use Rattle.std.proofs.Common.{◌≡◌, map, take}
use Rattle.std.specs.Char as char
use Rattle.builtin_text.proofs.characters.upper_case.Given as goal

abbrev pub invariant-loop-unit : goal.invariant-loop-unit
invariant-loop-unit l = l.large.items ≡ map char.to_ascii_uppercase (take l.unit-index l.units)
