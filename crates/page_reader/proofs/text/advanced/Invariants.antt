use Rattle.std.proofs.Common.{◌≡◌, ◌+◌, length}
use Rattle.page_reader.specs.Text.{bytes_before, size_of, units_behind}
use Rattle.page_reader.proofs.text.advanced.Given as goal

abbrev pub invariant-loop-left : goal.invariant-loop-left
invariant-loop-left l =
    (l.bytes + size_of l.rest ≡ size_of l.units)
    × (units_behind l.rest l.left ≡ units_behind l.units l.count)
    × (l.bytes + bytes_before l.rest l.left ≡ bytes_before l.units l.count)

abbrev pub decreases-loop-left : goal.decreases-loop-left
decreases-loop-left l = length l.rest
