use Rattle.std.proofs.Common.{◌≡◌}
use Rattle.object_heap.specs.Property.{own_property}
use Rattle.object_heap.proofs.properties.Properties.find.Given as goal

abbrev pub invariant-loop-name : goal.invariant-loop-name
invariant-loop-name l = own_property l.name-iterator l.text ≡ own_property l.self l.text
