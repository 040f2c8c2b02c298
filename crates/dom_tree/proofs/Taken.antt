-- What taking a node out leaves.
use Rattle.std.proofs.Common.{◌≡◌, refl, sym, ap, ◌∙◌, ℕ, Bool, true, false, nat_eq, Option, Some, None, length}
use Rattle.std.proofs.lemmas.Bool.{eqb-true}
use Rattle.js_values.specs.declared.ids.NodeId.{NodeId}
use Rattle.dom_tree.specs.Change.{taken_from, taken_out, without}
use Rattle.dom_tree.specs.Node.{Nodes, children_at, is_this, node_at, parent_at}
use Rattle.dom_tree.specs.Sound.{AreTrees}
use Rattle.dom_tree.proofs.Lists.{eq_sym, gone}
use Rattle.dom_tree.proofs.Trees.{Moved, child_in, child_of_parent, moved, parent_in, take_trees}

pub record Left (t u : Nodes) (c : NodeId) : Type 0 where
  pub content : (k : ℕ) → (node_at u k).content ≡ (node_at t k).content
  pub parent : (k : ℕ) → nat_eq c.0 k ≡ false → parent_at u k ≡ parent_at t k
  pub children : (q : ℕ) → children_at u q ≡ without c.0 (children_at t q)
  pub alone : parent_at u c.0 ≡ None
  pub long : length u ≡ length t
  pub trees : AreTrees u

left_by : (t : Nodes) (c : NodeId) → AreTrees t → (o : Option NodeId) → parent_at t c.0 ≡ o → Left t (taken_from t c o) c
left_by t c a None up = record {
  content = λ k. refl;
  parent = λ k ne. refl;
  children = λ q. sym (gone c.0 (children_at t q) (a.agree q c.0 ∙ ap (is_this q) up));
  alone = up;
  long = refl;
  trees = a;
}
left_by t c a (Some p) up = record {
  content = m.content;
  parent = m.parent_other;
  children = λ q. children q (nat_eq p.0 q) refl;
  alone = m.parent_here;
  long = m.long;
  trees = take_trees t (taken_from t c (Some p)) p c m up a;
}
  where
    m : Moved t (taken_from t c (Some p)) p c (without c.0 (children_at t p.0)) None
    m = moved t p c (without c.0 (children_at t p.0)) None (parent_in t a c.0 p up) (child_in t a p.0 c.0 (child_of_parent t a c.0 p up))

    children : (q : ℕ) (b : Bool) → nat_eq p.0 q ≡ b → children_at (taken_from t c (Some p)) q ≡ without c.0 (children_at t q)
    children q true e = ap (children_at (taken_from t c (Some p))) (sym (eqb-true p.0 q e)) ∙ m.children_here ∙ ap (λ z. without c.0 (children_at t z)) (eqb-true p.0 q e)
    children q false e = m.children_other q e ∙ sym (gone c.0 (children_at t q) (a.agree q c.0 ∙ ap (is_this q) up ∙ eq_sym q p.0 ∙ e))

pub left : (t : Nodes) (c : NodeId) → AreTrees t → Left t (taken_out t c) c
left t c a = left_by t c a (parent_at t c.0) refl

-- no node gets a parent
pub only_before : (t : Nodes) (c : NodeId) → AreTrees t → (j : ℕ) (p : NodeId) → parent_at (taken_out t c) j ≡ Some p → parent_at t j ≡ Some p
only_before t c a j p e = by (nat_eq c.0 j) refl
  where
    w : Left t (taken_out t c) c
    w = left t c a

    by : (b : Bool) → nat_eq c.0 j ≡ b → parent_at t j ≡ Some p
    by true f = let bad : None ≡ Some p = sym w.alone ∙ ap (parent_at (taken_out t c)) (eqb-true c.0 j f) ∙ e in cc
    by false f = sym (w.parent j f) ∙ e
