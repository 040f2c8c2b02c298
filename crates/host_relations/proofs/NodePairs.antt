-- Pairs of nodes that join a naming, and nodes that do not count.
use Rattle.std.proofs.Common.{◌≡◌, ◌⊎◌, inl, inr, refl, sym, ap, subst, ◌∙◌, ℕ, suc, ◌<◌, true, false, nat_eq, List, [], ◌∷◌, ◌++◌, length, None, arith}
use Rattle.std.proofs.lemmas.Bool.{eq-eqb, ne_eqb}
use Rattle.std.proofs.lemmas.List.{get_or_append_left, get_or_push}
use Rattle.dom_tree.specs.Node.{Node, Nodes, no_node, node_at}
use Rattle.heap_relations.specs.Naming.{In, Pair, World, here, pair, there}
use Rattle.heap_relations.specs.Related.{no_more, none}
use Rattle.host_relations.proofs.Larger.{linked_up, node_up, pair_more}
use Rattle.host_relations.specs.Linked.{Linked, with_pair}
use Rattle.host_relations.specs.NodeLaws.{MadeNodesAgree, NewNodesAgree, OthersDoNotCount}
use Rattle.host_relations.specs.Nodes.{NodeRel}

-- a pair is the new one or an old one
pub which : (W : World) (i j x y : ℕ) → Linked (with_pair W i j) x y → ((x ≡ i) × (y ≡ j)) ⊎ Linked W x y
which W i j x y h = by (pair x y) refl h.named
  where
    by : (p : Pair) → p ≡ pair x y → In p (pair i j ∷ W.nodes) → ((x ≡ i) × (y ≡ j)) ⊎ Linked W x y
    by _ e here = inl (ap (λ q. q.one) (sym e), ap (λ q. q.two) (sym e))
    by p e (there k) = inr (record { named = subst (λ q. In q W.nodes) e k })

in_front : (t : Nodes) (n : Node) (k : ℕ) → k < length t → node_at (t ++ n ∷ []) k ≡ node_at t k
in_front t n k h = get_or_append_left t (n ∷ []) no_node k h

at_end : (t : Nodes) (n : Node) → node_at (t ++ n ∷ []) (length t) ≡ n
at_end t n = get_or_push t n no_node (length t) refl

pub one_longer : {A : Type 0} (xs : List A) (x : A) → length (xs ++ x ∷ []) ≡ suc (length xs)
one_longer [] x = refl
one_longer (y ∷ xs) x = ap suc (one_longer xs x)

ne_old : (i n : ℕ) → i < n → nat_eq i n ≡ false
ne_old i n l = ne_eqb i n (λ e. omega (arith, l, e))

ne_new : (i n : ℕ) → i < n → nat_eq n i ≡ false
ne_new i n l = ne_eqb n i (λ e. omega (arith, l, e))

pub new_nodes_agree : NewNodesAgree
new_nodes_agree W t u c g = record {
  at = λ x y h. at x y (which W (length t) (length u) x y h);
  inside = λ x y h. inside x y (which W (length t) (length u) x y h);
  same = λ x y z w h k. same x y z w (which W (length t) (length u) x y h) (which W (length t) (length u) z w k);
  document = linked_up (pair_more W (length t) (length u)) g.document;
}
  where
    fresh : Node
    fresh = record { content = c; parent = None; children = [] }

    at : (x y : ℕ) → ((x ≡ length t) × (y ≡ length u)) ⊎ Linked W x y → NodeRel (Linked (with_pair W (length t) (length u))) (node_at (t ++ fresh ∷ []) x) (node_at (u ++ fresh ∷ []) y)
    at x y (inr h) = rw (in_front t fresh x (g.inside x y h).0, in_front u fresh y (g.inside x y h).1) (node_up (pair_more W (length t) (length u)) (g.at x y h))
    at x y (inl e) = rw (e.0, e.1, at_end t fresh, at_end u fresh) (record { content = refl; parent = none; children = no_more })

    inside : (x y : ℕ) → ((x ≡ length t) × (y ≡ length u)) ⊎ Linked W x y → (x < length (t ++ fresh ∷ [])) × (y < length (u ++ fresh ∷ []))
    inside x y (inr h) = (omega (arith, (g.inside x y h).0, one_longer t fresh), omega (arith, (g.inside x y h).1, one_longer u fresh))
    inside x y (inl e) = (omega (arith, e.0, one_longer t fresh), omega (arith, e.1, one_longer u fresh))

    same : (x y z w : ℕ) → ((x ≡ length t) × (y ≡ length u)) ⊎ Linked W x y → ((z ≡ length t) × (w ≡ length u)) ⊎ Linked W z w → nat_eq x z ≡ nat_eq y w
    same x y z w (inr h) (inr k) = g.same x y z w h k
    same x y z w (inr h) (inl e) = rw (e.0, e.1) (ne_old x (length t) (g.inside x y h).0 ∙ sym (ne_old y (length u) (g.inside x y h).1))
    same x y z w (inl e) (inr k) = rw (e.0, e.1) (ne_new z (length t) (g.inside z w k).0 ∙ sym (ne_new w (length u) (g.inside z w k).1))
    same x y z w (inl e) (inl f) = rw (e.0, e.1, f.0, f.1) (eq-eqb (length t) (length t) refl ∙ sym (eq-eqb (length u) (length u) refl))

pub made_nodes_agree : MadeNodesAgree
made_nodes_agree W t u a c g within alone apart = record {
  at = λ x y h. at x y (which W a (length u) x y h);
  inside = λ x y h. inside x y (which W a (length u) x y h);
  same = λ x y z w h k. same x y z w (which W a (length u) x y h) (which W a (length u) z w k);
  document = linked_up (pair_more W a (length u)) g.document;
}
  where
    fresh : Node
    fresh = record { content = c; parent = None; children = [] }

    at : (x y : ℕ) → ((x ≡ a) × (y ≡ length u)) ⊎ Linked W x y → NodeRel (Linked (with_pair W a (length u))) (node_at t x) (node_at (u ++ fresh ∷ []) y)
    at x y (inr h) = rw (in_front u fresh y (g.inside x y h).1) (node_up (pair_more W a (length u)) (g.at x y h))
    at x y (inl e) = rw (e.0, e.1, alone, at_end u fresh) (record { content = refl; parent = none; children = no_more })

    inside : (x y : ℕ) → ((x ≡ a) × (y ≡ length u)) ⊎ Linked W x y → (x < length t) × (y < length (u ++ fresh ∷ []))
    inside x y (inr h) = ((g.inside x y h).0, omega (arith, (g.inside x y h).1, one_longer u fresh))
    inside x y (inl e) = (omega (arith, e.0, within), omega (arith, e.1, one_longer u fresh))

    turned : (x : ℕ) → nat_eq x a ≡ false → nat_eq a x ≡ false
    turned x e = ne_eqb a x (λ f. let s : nat_eq x a ≡ true = eq-eqb x a (sym f) in absurd (cc))

    same : (x y z w : ℕ) → ((x ≡ a) × (y ≡ length u)) ⊎ Linked W x y → ((z ≡ a) × (w ≡ length u)) ⊎ Linked W z w → nat_eq x z ≡ nat_eq y w
    same x y z w (inr h) (inr k) = g.same x y z w h k
    same x y z w (inr h) (inl e) = rw (e.0, e.1) (apart x y h ∙ sym (ne_old y (length u) (g.inside x y h).1))
    same x y z w (inl e) (inr k) = rw (e.0, e.1) (turned z (apart z w k) ∙ sym (ne_new w (length u) (g.inside z w k).1))
    same x y z w (inl e) (inl f) = rw (e.0, e.1, f.0, f.1) (eq-eqb a a refl ∙ sym (eq-eqb (length u) (length u) refl))

pub others_do_not_count : OthersDoNotCount
others_do_not_count W t u v g h = record {
  at = λ x y k. rw (h.stays y x k) (g.at x y k);
  inside = λ x y k. ((g.inside x y k).0, h.inside x y k);
  same = g.same;
  document = g.document;
}
