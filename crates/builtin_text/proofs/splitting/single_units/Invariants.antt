use Rattle.std.proofs.Common.{◌≡◌, ◌≤◌, [], ◌∷◌, map, take}
use Rattle.builtin_text.proofs.splitting.single_units.Given as goal

abbrev pub invariant-loop-index : goal.invariant-loop-index
invariant-loop-index l = (l.index ≤ l.index-end) × (l.parts.items ≡ map (λ u. u ∷ []) (take l.index l.units))
