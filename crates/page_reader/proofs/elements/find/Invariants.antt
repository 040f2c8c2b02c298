use Rattle.std.proofs.Common.{◌≡◌, drop}
use Rattle.dom_tree.specs.Attributes.{value_of}
use Rattle.page_reader.proofs.elements.find.Given as goal

abbrev pub invariant-loop-known : goal.invariant-loop-known
invariant-loop-known l = value_of l.name (drop l.known-index l.attributes) ≡ value_of l.name l.attributes
