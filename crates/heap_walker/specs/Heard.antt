-- The listeners of each node, in lists by the places of the nodes.
use Rattle.std.specs.Prelude.{◌≡◌, ℕ, ◌<◌, List, [], ◌∷◌, ◌++◌, length, nat_eq, slice_index_or, if◌then◌else◌}
use Rattle.page_host.specs.declared.listener.Listener.{Listener}
use Rattle.heap_walker.specs.Things.{heard_at}

abbrev pub group_at : List (List Listener) → ℕ → List Listener
group_at gs k = slice_index_or gs k []

-- each node has its own, in the order in which they were added
abbrev pub AreHeard : List Listener → List (List Listener) → Type 0
AreHeard ls gs = (k : ℕ) → group_at gs k ≡ heard_at k ls

-- those of the node at the place, with one more, if it is of this node
abbrev pub with_heard : ℕ → List Listener → Listener → List Listener
with_heard k ls l = if nat_eq k l.node.0 then ls ++ l ∷ [] else ls

-- there is a list at the place, and those that were there are as they were
pub record Reaches (old new : List (List Listener)) (place : ℕ) : Type 0 where
  pub there : place < length new
  pub same : (k : ℕ) → group_at new k ≡ group_at old k
