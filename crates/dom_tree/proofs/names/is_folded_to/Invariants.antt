use Rattle.std.proofs.Common.{◌≡◌, ℕ, ◌<◌, get_or}
use Rattle.std.specs.Char.{to_ascii_lowercase}
use Rattle.dom_tree.proofs.names.is_folded_to.Given as goal

abbrev pub invariant-loop-i : goal.invariant-loop-i
invariant-loop-i l = (k : ℕ) → k < l.i → to_ascii_lowercase (get_or l.given k 0) ≡ get_or l.wanted k 0
