use Rattle.std.proofs.Common.{length, ◌+◌, ◌-◌, ◌≡◌, ◌≤◌, suc}
use Rattle.std.specs.Prelude.{find}
use Rattle.std.specs.List.{range_with_len}
use Rattle.page_meaning.specs.StringRows as spec
use Rattle.builtin_text.proofs.searching.first_place.Given as goal

-- the search from here is the search from the start
abbrev pub invariant-loop-place : goal.invariant-loop-place
invariant-loop-place l =
    (l.start ≤ l.place) × (find (spec.stands_at l.units l.part) (range_with_len l.place (suc (length l.units) - l.place)) ≡ spec.first_place l.units l.part l.start)

abbrev pub decreases-loop-place : goal.decreases-loop-place
decreases-loop-place l = length l.units + 1 - l.place
