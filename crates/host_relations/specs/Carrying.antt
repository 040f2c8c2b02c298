-- The nodes of a page are appended again in another page, where each has a counterpart that is alone and junk stands beside: none is refused, and both pages
-- have the same nodes then. The first page is run beside it, from its own nodes alone.
use Rattle.std.specs.Prelude.{◌≡◌, ℕ, true, List, [], ◌∷◌, Some}
use Rattle.js_values.specs.declared.ids.NodeId.{NodeId}
use Rattle.dom_tree.specs.Node.{Nodes, children_at, has, is_distinct, parent_at}
use Rattle.dom_tree.specs.Sound.{AreTrees, IsSound}
use Rattle.heap_relations.specs.Naming.{World}
use Rattle.host_relations.specs.Appends.{AreAccepted, alone, appended}
use Rattle.host_relations.specs.Linked.{Linked}
use Rattle.host_relations.specs.Nodes.{NodesRel}

abbrev pub sited : (NodeId → NodeId) → List NodeId → List NodeId
sited f [] = []
sited f (c ∷ cs) = f c ∷ sited f cs

abbrev pub all_placed : Nodes → (NodeId → NodeId) → List NodeId → Nodes → Nodes
all_placed t f [] u = u
all_placed t f (k ∷ ks) u = all_placed t f ks (appended (f k) (sited f (children_at t k.0)) u)

abbrev pub AllPlaced : Nodes → (NodeId → NodeId) → List NodeId → Nodes → Type 0
AllPlaced t f [] u = Unit {0}
AllPlaced t f (k ∷ ks) u = AreAccepted (f k) (sited f (children_at t k.0)) u × AllPlaced t f ks (appended (f k) (sited f (children_at t k.0)) u)

-- exactly these nodes are linked, each to its counterpart; they have their parents and children among them
pub record AreSited (W : World) (t : Nodes) (f : NodeId → NodeId) (ks : List NodeId) : Type 0 where
  pub linked : (k : NodeId) → has k.0 ks ≡ true → Linked W k.0 (f k).0
  pub only : (a b : ℕ) → Linked W a b → has a ks ≡ true
  pub parents : (k : ℕ) → has k ks ≡ true → (p : NodeId) → parent_at t k ≡ Some p → has p.0 ks ≡ true
  pub children : (k c : ℕ) → has k ks ≡ true → has c (children_at t k) ≡ true → has c ks ≡ true

abbrev pub AppendsCarry : Type 0
AppendsCarry =
    (W : World) (t u : Nodes) (f : NodeId → NodeId) (ks : List NodeId) → IsSound t → is_distinct ks ≡ true → AreSited W t f ks
    → NodesRel (Linked W) (alone t) u → AreTrees u
    → AllPlaced t f ks u × NodesRel (Linked W) t (all_placed t f ks u)
