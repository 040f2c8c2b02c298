use Rattle.std.proofs.Common.{◌≡◌}
use Rattle.dom_tree.specs.Attributes.{with_value_of}
use Rattle.dom_tree.specs.Name.{folded}
use Rattle.dom_tree.proofs.Named.{IsPast}
use Rattle.dom_tree.proofs.attributes.Attributes.set.Given as goal

abbrev pub invariant-loop-place : goal.invariant-loop-place
invariant-loop-place l = record {
  same : l.self-inside.items.items ≡ l.fn.self;
  past : IsPast (with_value_of (folded l.name) l.value) l.fn.self l.place;
}
