use Rattle.std.proofs.Common.{◌≡◌, map, take}
use Rattle.page_reader.specs.Bytes.{script_of}
use Rattle.page_reader.specs.Text.{bytes_before, units_behind}
use Rattle.page_reader.proofs.places.placed.Given as goal

abbrev pub invariant-loop-raw : goal.invariant-loop-raw
invariant-loop-raw l =
    (l.scripts.items ≡ map (script_of l.skipped l.units) (take l.raw-index l.raws))
    × (l.rest ≡ units_behind l.units l.passed)
    × (l.bytes ≡ bytes_before l.units l.passed)
