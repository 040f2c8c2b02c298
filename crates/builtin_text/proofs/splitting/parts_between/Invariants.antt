use Rattle.std.proofs.Common.{◌≡◌, ◌-◌, ◌++◌, length, take}
use Rattle.page_meaning.specs.StringRows as spec
use Rattle.builtin_text.proofs.splitting.parts_between.Given as goal

-- the parts behind those of the rest are all parts
abbrev pub invariant-loop-turn : goal.invariant-loop-turn
invariant-loop-turn l =
    take l.limit (l.parts.items ++ spec.parts_between (length l.units - l._turn) l.separator l.rest) ≡ take l.limit (spec.parts_between (length l.units) l.separator l.units)
