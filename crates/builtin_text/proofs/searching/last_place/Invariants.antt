use Rattle.std.proofs.Common.{◌≡◌, ◌≤◌, ◌+◌}
use Rattle.std.specs.Prelude.{find, reverse}
use Rattle.std.specs.List.{range_with_len}
use Rattle.page_meaning.specs.StringRows as spec
use Rattle.builtin_text.proofs.searching.last_place.Given as goal

-- the search from here is the search from the start
abbrev pub invariant-loop-after : goal.invariant-loop-after
invariant-loop-after l =
    (l.after ≤ l.start + 1) × (find (spec.stands_at l.units l.part) (reverse (range_with_len 0 l.after)) ≡ spec.last_place l.units l.part l.start)

abbrev pub decreases-loop-after : goal.decreases-loop-after
decreases-loop-after l = l.after
