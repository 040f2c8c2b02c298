-- What taking all children of a node out leaves.
use Rattle.std.proofs.Common.{◌≡◌, refl, sym, ap, ◌∙◌, ℕ, Bool, true, false, cond, ◌||◌, nat_eq, List, [], ◌∷◌, Some, None, length}
use Rattle.std.proofs.lemmas.Bool.{both_ways, eqb-true, or_parts}
use Rattle.js_values.specs.declared.ids.NodeId.{NodeId}
use Rattle.dom_tree.specs.Change.{all_taken_out, taken_out, without}
use Rattle.dom_tree.specs.Laws.{AllStandAlone}
use Rattle.dom_tree.specs.Node.{Nodes, children_at, has, is_this, parent_at}
use Rattle.dom_tree.specs.Sound.{AreTrees}
use Rattle.dom_tree.proofs.Lists.{eq_refl, eq_sym, gone, has_head, has_tail, id_of}
use Rattle.dom_tree.proofs.Taken.{Left, left}
use Rattle.dom_tree.proofs.Trees.{child_of_parent, parent_of_child}

pub record AllLeft (t u : Nodes) (cs : List NodeId) : Type 0 where
  pub trees : AreTrees u
  pub long : length u ≡ length t
  pub alone : (j : ℕ) → has j cs ≡ true → parent_at u j ≡ None
  pub parent : (j : ℕ) → has j cs ≡ false → parent_at u j ≡ parent_at t j

one_more : (t : Nodes) (c : NodeId) (cs : List NodeId) (u : Nodes) → Left t (taken_out t c) c → AllLeft (taken_out t c) u cs → AllLeft t u (c ∷ cs)
one_more t c cs u w later = record {
  trees = later.trees;
  long = later.long ∙ w.long;
  alone = λ j h. alone j (has j cs) refl h;
  parent = λ j h. let p = or_parts (nat_eq j c.0) (has j cs) h in later.parent j p.1 ∙ w.parent j (eq_sym c.0 j ∙ p.0);
}
  where
    first : (j : ℕ) (b : Bool) → nat_eq j c.0 ≡ b → b || false ≡ true → j ≡ c.0
    first j true e h = eqb-true j c.0 e
    first j false e h = cc

    alone : (j : ℕ) (b : Bool) → has j cs ≡ b → nat_eq j c.0 || b ≡ true → parent_at u j ≡ None
    alone j true e h = later.alone j e
    alone j false e h = later.parent j e ∙ ap (parent_at (taken_out t c)) (first j (nat_eq j c.0) refl h) ∙ w.alone

pub all_left : (t : Nodes) (cs : List NodeId) → AreTrees t → AllLeft t (all_taken_out t cs) cs
all_left t [] a = record { trees = a; long = refl; alone = λ j h. cc; parent = λ j h. refl }
all_left t (c ∷ cs) a =
    let w : Left t (taken_out t c) c = left t c a in
    one_more t c cs (all_taken_out (taken_out t c) cs) w (all_left (taken_out t c) cs w.trees)

-- the children of another node stay
others_keep : (t : Nodes) (cs : List NodeId) (q : ℕ) → AreTrees t → ((c : NodeId) → has c.0 cs ≡ true → has c.0 (children_at t q) ≡ false) → children_at (all_taken_out t cs) q ≡ children_at t q
others_keep t [] q a out = refl
others_keep t (c ∷ cs) q a out =
    let w : Left t (taken_out t c) c = left t c a in
    let same : children_at (taken_out t c) q ≡ children_at t q = w.children q ∙ gone c.0 (children_at t q) (out c (has_head c cs)) in
    others_keep (taken_out t c) cs q w.trees (λ d i. ap (has d.0) same ∙ out d (has_tail d c cs i)) ∙ same

pub all_stand_alone : AllStandAlone
all_stand_alone t k sound = (
  none (children_at u k.0) refl,
  λ c h. w.alone c h,
  λ c h. w.parent c h,
  λ q ne. others_keep t cs q sound.trees (λ c i. sound.trees.agree q c.0 ∙ ap (is_this q) (parent_of_child t sound.trees k.0 c.0 i) ∙ eq_sym q k.0 ∙ ne),
)
  where
    cs : List NodeId
    cs = children_at t k.0

    u : Nodes
    u = all_taken_out t cs

    w : AllLeft t u cs
    w = all_left t cs sound.trees

    none : (l : List NodeId) → children_at u k.0 ≡ l → l ≡ []
    none [] e = refl
    none (d ∷ l) e = absurd (by (has d.0 cs) refl)
      where
        up : parent_at u d.0 ≡ Some (id_of k.0)
        up = parent_of_child u w.trees k.0 d.0 (ap (has d.0) e ∙ has_head d l)

        by : (b : Bool) → has d.0 cs ≡ b → ⊥
        by true i = let bad : None ≡ Some (id_of k.0) = sym (w.alone d.0 i) ∙ up in cc
        by false i = both_ways (has d.0 cs) i (child_of_parent t sound.trees d.0 (id_of k.0) (sym (w.parent d.0 i) ∙ up))

-- taking the first child out, and then the others
pub first_out : (t : Nodes) (k : ℕ) (c : NodeId) (l : List NodeId) → AreTrees t → children_at t k ≡ c ∷ l → children_at (taken_out t c) k ≡ l
first_out t k c l a e = w.children k ∙ ap (without c.0) e ∙ ap (λ b. cond b l (c ∷ without c.0 l)) (eq_refl c.0)
  where
    w : Left t (taken_out t c) c
    w = left t c a
