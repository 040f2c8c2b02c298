-- How trees are walked: each node is entered, then those under it are visited, and then it is left.
use Rattle.std.specs.Prelude.{◌≡◌, ℕ, zero, suc, ◌<◌, cond, List, [], ◌∷◌, ◌++◌, Option, Some, None, length, nat_eq, if◌then◌else◌}
use Rattle.js_core.specs.Text.{Text}
use Rattle.js_values.specs.declared.ids.NodeId.{NodeId}
use Rattle.dom_tree.specs.declared.walk.Visit.{Visit}
use Rattle.dom_tree.specs.declared.walk.Visit.TheVariants.{Enter, Leave}
use Rattle.dom_tree.specs.Node.{Nodes, children_at, parent_at, rest_after}
use Rattle.dom_tree.specs.Trees.{Trees, has_id, no_trees, tree, trees_of}

abbrev pub visits : Trees → List Visit
visits no_trees = []
visits (tree k n under others) = Enter k ∷ (visits under ++ Leave k ∷ visits others)

-- the visits after a node with this parent was left: those of the nodes after it, and then on from the parent
abbrev pub visits_from : Nodes → ℕ → (ℕ → List Visit) → Option NodeId → List Visit
visits_from t k on None = []
visits_from t k on (Some p) = visits (trees_of t (rest_after k (children_at t p.0))) ++ Leave p ∷ on p.0

-- the visits after a node was left, in a walk of the tree under the root, through so many generations
abbrev pub visits_after_within : Nodes → ℕ → ℕ → ℕ → List Visit
visits_after_within t root zero k = []
visits_after_within t root (suc n) k = cond (nat_eq k root) [] (visits_from t k (visits_after_within t root n) (parent_at t k))

abbrev pub visits_after : Nodes → ℕ → ℕ → List Visit
visits_after t root k = visits_after_within t root (length t) k

-- the visits from this one on
abbrev pub visits_on : Nodes → ℕ → Option Visit → List Visit
visits_on t root None = []
visits_on t root (Some (Enter k)) = Enter k ∷ (visits (trees_of t (children_at t k.0)) ++ Leave k ∷ visits_after t root k.0)
visits_on t root (Some (Leave k)) = Leave k ∷ visits_after t root k.0

-- the node is the root, or its parent is so
pub data Under (t : Nodes) (root : ℕ) : ℕ → Type 0 where
  itself : {k : ℕ} → k ≡ root → Under t root k
  below : {k : ℕ} {p : NodeId} → parent_at t k ≡ Some p → Under t root p.0 → Under t root k

-- the visit is of a node under the root
abbrev pub visited : Visit → NodeId
visited (Enter k) = k
visited (Leave k) = k

pub record IsIn (t : Nodes) (root : ℕ) (v : Visit) : Type 0 where
  pub there : (visited v).0 < length t
  pub under : Under t root (visited v).0

-- the node that is entered, where its attribute `id` is this
abbrev pub entered_with_id : Nodes → Text → Visit → Option NodeId
entered_with_id t id (Enter k) = if has_id t id k then Some k else None
entered_with_id t id (Leave k) = None
