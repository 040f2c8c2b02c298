-- What was seen while a page is walked through.
use Rattle.std.specs.Prelude.{ℕ, List, [], ◌∷◌, nat_eq, take, IsTrue, if◌then◌else◌}
use Rattle.indexmap.specs.IndexSet.{insert_key}
use Rattle.page_meaning.specs.Store.{Store}
use Rattle.heap_walker.specs.Things.{Reach, is_in, links, roots}
use Rattle.object_shapes.specs.Links.{is_thing}

-- what was seen, with this one, if it is a thing
abbrev pub with_seen : Store → List ℕ → ℕ → List ℕ
with_seen s seen k = if is_thing s k then insert_key nat_eq seen k else seen

-- with each of these
abbrev pub joined : Store → List ℕ → List ℕ → List ℕ
joined s seen [] = seen
joined s seen (k ∷ ks) = joined s (with_seen s seen k) ks

-- what was seen can be reached, holds the things that the page begins from, and those that its first ones refer to
pub record IsPart (s : Store) (first : ℕ) (seen : List ℕ) : Type 0 where
  pub sound : (k : ℕ) → IsTrue (is_in k seen) → Reach s k
  pub roots : (k : ℕ) → IsTrue (is_thing s k) → IsTrue (is_in k (roots s)) → IsTrue (is_in k seen)
  pub links : (j k : ℕ) → IsTrue (is_in j (take first seen)) → IsTrue (is_thing s k) → IsTrue (is_in k (links s j)) → IsTrue (is_in k seen)

-- what was seen is what can be reached
pub record IsAll (s : Store) (seen : List ℕ) : Type 0 where
  pub sound : (k : ℕ) → IsTrue (is_in k seen) → Reach s k
  pub complete : (k : ℕ) → Reach s k → IsTrue (is_in k seen)
