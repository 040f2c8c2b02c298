use Rattle.std.proofs.Common.{◌≡◌, take}
use Rattle.page_reader.specs.Replacing.{places_of}
use Rattle.page_check.proofs.acceptance.places.Given as goal

abbrev pub invariant-loop-script : goal.invariant-loop-script
invariant-loop-script l = l.places.items ≡ places_of (take l.script-index l.scripts)
