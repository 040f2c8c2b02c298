-- Nodes that a naming links, and a pair of nodes that joins it.
use Rattle.std.specs.Prelude.{ℕ, ◌∷◌}
use Rattle.heap_relations.specs.Naming.{World, pair}
use Rattle.heap_relations.specs.Naming as naming

abbrev pub Linked : World → ℕ → ℕ → Type 0
Linked W a b = naming.Nodes W a b

-- the nodes at these places join the naming
abbrev pub with_pair : World → ℕ → ℕ → World
with_pair W a b = record { opens = W.opens; opened = W.opened; fits = W.fits; before = W.before; objects = W.objects; nodes = pair a b ∷ W.nodes; slots = W.slots; done = W.done; bases = W.bases }
