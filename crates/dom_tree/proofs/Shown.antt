-- The links tell the nodes, also after a node is put in or taken out.
use Rattle.std.proofs.Common.{◌≡◌, ◌⊎◌, inl, inr, refl, sym, ap, subst, ◌∙◌, ℕ, ◌<◌, ◌≤◌, Bool, true, false, nat_eq, List, Option, Some, None, length, slice_index_or, arith}
use Rattle.std.proofs.lemmas.Bool.{both_ways, eqb-true}
use Rattle.std.proofs.lemmas.List.{length-map, get_or-map, same_lists, get_or_default}
use Rattle.std.specs.Option.{ForSome}
use Rattle.js_values.specs.declared.ids.NodeId.{NodeId}
use Rattle.dom_tree.specs.declared.content.Content.{Content}
use Rattle.dom_tree.specs.declared.links.Linked.{Linked}
use Rattle.dom_tree.specs.Change.{put_before, without}
use Rattle.dom_tree.specs.Fits.{in_or_end}
use Rattle.dom_tree.specs.Links.{Row, Shows, backward, beside, ends, followed, forward, linked_at, links_at, no_linked, node_of, nodes_of, place_of}
use Rattle.dom_tree.specs.Node.{Node, Nodes, children_at, has, is_this, no_node, node_at, parent_at}
use Rattle.dom_tree.specs.Sound.{AreTrees}
use Rattle.dom_tree.proofs.Chains.{back_is, forth_is, followed_chain, frame, in_apart, put_in, take_out}
use Rattle.dom_tree.proofs.Linking.{IsLinkedIn, IsLinkedOut, Rewired, is_in}
use Rattle.dom_tree.proofs.Lists.{eq_refl, eq_sym, id_of, same_id}
use Rattle.dom_tree.proofs.Trees.{Moved, child_in, few_children, parent_of_child}

same_node : (c d : Content) (p q : Option NodeId) (l m : List NodeId) → c ≡ d → p ≡ q → l ≡ m
    → ◌≡◌ {A = Node} (record { content = c; parent = p; children = l }) (record { content = d; parent = q; children = m })
same_node c d p q l m e f g = rw (e, f, g) refl

-- what the links tell is these nodes
pub shown : (ns : List Linked) (t : Nodes) → Shows ns t → AreTrees t → nodes_of ns ≡ t
shown ns t s a = same_lists (nodes_of ns) t (length-map ns (node_of ns) ∙ sym s.long) at
  where
    at : (k : ℕ) (d : Node) → k < length (nodes_of ns) → slice_index_or (nodes_of ns) k d ≡ slice_index_or t k d
    at k d h =
        let here : k < length ns = omega (arith, h, length-map ns (node_of ns)) in
        let there : k < length t = omega (arith, here, s.long) in
        let n : Linked = linked_at ns k in
        let kids : followed (λ c. (links_at ns c.0).next) (length ns) n.links.first ≡ children_at t k =
        followed_chain (λ c. (links_at ns c.0).next) (length ns) (λ u. forward ns (place_of k u)) (λ u. backward ns (place_of k u)) None (children_at t k) (λ c. refl) (s.rows k) (subst (λ z. length (children_at t k) ≤ z) s.long (few_children t a k))
        in
        get_or-map (node_of ns) ns k no_linked d here ∙ same_node n.content (node_at t k).content n.links.parent (parent_at t k) _ _ (sym (s.content k)) (sym (s.parent k)) kids ∙ get_or_default t k no_node d there

-- a link leads into the list of children, or to an end of it
pub back_in : (ns : List Linked) (p : ℕ) (r : Option NodeId) (l : List NodeId) → Row ns p l → in_or_end r l ≡ true → in_or_end (backward ns (place_of p r)) l ≡ true
back_in ns p r l row e = by (back_is (λ u. forward ns (place_of p u)) (λ u. backward ns (place_of p u)) None r l row e)
  where
    by : (backward ns (place_of p r) ≡ None) ⊎ ((c : NodeId) × (backward ns (place_of p r) ≡ Some c) × (has c.0 l ≡ true)) → in_or_end (backward ns (place_of p r)) l ≡ true
    by (inl f) = ap (λ z. in_or_end z l) f
    by (inr (c, f, i)) = ap (λ z. in_or_end z l) f ∙ i

pub forth_in : (ns : List Linked) (p : ℕ) (x : NodeId) (l : List NodeId) → Row ns p l → has x.0 l ≡ true → in_or_end (forward ns (beside x)) l ≡ true
forth_in ns p x l row e = by (forth_is (λ u. forward ns (place_of p u)) (λ u. backward ns (place_of p u)) None x l row e)
  where
    by : (forward ns (beside x) ≡ None) ⊎ ((c : NodeId) × (forward ns (beside x) ≡ Some c) × (has c.0 l ≡ true)) → in_or_end (forward ns (beside x)) l ≡ true
    by (inl f) = ap (λ z. in_or_end z l) f
    by (inr (c, f, i)) = ap (λ z. in_or_end z l) f ∙ i

-- a place that is at no node but those of a list is not beside another
pub not_beside : (p : ℕ) (z : Option NodeId) (l : List NodeId) (d : NodeId) → in_or_end z l ≡ true → has d.0 l ≡ false → place_of p z ≡ beside d → ⊥
not_beside p None l d i out e = cc
not_beside p (Some c) l d i out e =
    let same : c ≡ d = cc in
    absurd (both_ways (has d.0 l) out (ap (λ z. has z.0 l) (sym same) ∙ i))

not_ends : (p q : ℕ) (z : Option NodeId) → nat_eq p q ≡ false → place_of p z ≡ ends q → ⊥
not_ends p q None ne e =
    let same : p ≡ q = cc in
    absurd (both_ways (nat_eq p q) ne (ap (nat_eq p) (sym same) ∙ eq_refl p))
not_ends p q (Some c) ne e = cc

pub place_one : (p : ℕ) (u v : Option NodeId) → place_of p u ≡ place_of p v → u ≡ v
place_one p None None e = refl
place_one p None (Some d) e = cc
place_one p (Some c) None e = cc
place_one p (Some c) (Some d) e = let same : c ≡ d = cc in ap Some same

pub range_of : (ns : List Linked) (t : Nodes) (p : ℕ) (z : Option NodeId) → Shows ns t → AreTrees t → p < length t → in_or_end z (children_at t p) ≡ true → is_in ns (place_of p z)
range_of ns t p None s a h i = omega (arith, h, s.long)
range_of ns t p (Some c) s a h i = omega (arith, child_in t a p c.0 i, s.long)

pub range_for : (ns : List Linked) (t : Nodes) (p : ℕ) (z : Option NodeId) → Shows ns t → AreTrees t → in_or_end z (children_at t p) ≡ true → ForSome z (λ c. c.0 < length ns)
range_for ns t p None s a i d e = cc
range_for ns t p (Some c) s a i d e =
    let same : c ≡ d = cc in
    let low : c.0 < length ns = omega (arith, child_in t a p c.0 i, s.long) in
    subst (λ z. z.0 < length ns) same low

-- a child of one node is not among the children of another
elsewhere : (t : Nodes) → AreTrees t → (p q d : ℕ) → nat_eq p q ≡ false → has d (children_at t q) ≡ true → has d (children_at t p) ≡ false
elsewhere t a p q d ne i = by (has d (children_at t p)) refl
  where
    by : (b : Bool) → has d (children_at t p) ≡ b → b ≡ false
    by true h =
        let both : Some (id_of p) ≡ Some (id_of q) = sym (parent_of_child t a p d h) ∙ parent_of_child t a q d i in
        let one : id_of p ≡ id_of q = cc in
        let same : p ≡ q = ap (λ z. z.0) one in
        absurd (both_ways (nat_eq p q) ne (ap (nat_eq p) (sym same) ∙ eq_refl p))
    by false h = refl

module _ (ns ms : List Linked) (t u : Nodes) (p x : NodeId) (l : List NodeId) (o q r : Option NodeId)
    (s : Shows ns t) (a : AreTrees t) (m : Moved t u p x l o) (w : Rewired ns ms p.0 q x r o)
    (q_in : in_or_end q (children_at t p.0) ≡ true) (r_in : in_or_end r (children_at t p.0) ≡ true) where
  -- links beside nodes that are no children of p, and are not x, stay
  far_forward : (d : NodeId) → has d.0 (children_at t p.0) ≡ false → nat_eq d.0 x.0 ≡ false → forward ms (beside d) ≡ forward ns (beside d)
  far_forward d out ne =
      w.forward_other (beside d) (λ e. not_beside p.0 q (children_at t p.0) d q_in out (sym e))
      (λ e. let same : d ≡ x = cc in absurd (both_ways (nat_eq d.0 x.0) ne (ap (λ z. nat_eq d.0 z.0) (sym same) ∙ eq_refl d.0)))

  far_backward : (d : NodeId) → has d.0 (children_at t p.0) ≡ false → nat_eq d.0 x.0 ≡ false → backward ms (beside d) ≡ backward ns (beside d)
  far_backward d out ne =
      w.backward_other (beside d) (λ e. not_beside p.0 r (children_at t p.0) d r_in out (sym e))
      (λ e. let same : d ≡ x = cc in absurd (both_ways (nat_eq d.0 x.0) ne (ap (λ z. nat_eq d.0 z.0) (sym same) ∙ eq_refl d.0)))

  -- and so do the children of other nodes
  other_row : (k : ℕ) → nat_eq p.0 k ≡ false → ((d : NodeId) → has d.0 (children_at t k) ≡ true → nat_eq d.0 x.0 ≡ false) → Row ms k (children_at u k)
  other_row k ne not_x =
      subst (Row ms k) (sym (m.children_other k ne))
      (frame (λ z. forward ns (place_of k z)) (λ z. backward ns (place_of k z)) (λ z. forward ms (place_of k z)) (λ z. backward ms (place_of k z)) None (children_at t k) (s.rows k)
      (w.forward_other (ends k) (λ e. not_ends p.0 k q ne (sym e)) (λ e. cc)) (w.backward_other (ends k) (λ e. not_ends p.0 k r ne (sym e)) (λ e. cc))
      (λ d i.
      let out : has d.0 (children_at t p.0) ≡ false = elsewhere t a p.0 k d.0 ne i in
      (far_forward d out (not_x d i), far_backward d out (not_x d i))))

  same_parent : (k : ℕ) → parent_at u k ≡ (links_at ms k).parent
  same_parent k = by (nat_eq x.0 k) refl
    where
      by : (b : Bool) → nat_eq x.0 k ≡ b → parent_at u k ≡ (links_at ms k).parent
      by true e = subst (λ z. parent_at u z ≡ (links_at ms z).parent) (eqb-true x.0 k e) (m.parent_here ∙ sym w.parent_here)
      by false e = m.parent_other k e ∙ s.parent k ∙ sym (w.parent_other k e)

  rows_from : Row ms p.0 l → ((k : ℕ) → nat_eq p.0 k ≡ false → Row ms k (children_at u k)) → (k : ℕ) → Row ms k (children_at u k)
  rows_from here other k = by (nat_eq p.0 k) refl
    where
      by : (b : Bool) → nat_eq p.0 k ≡ b → Row ms k (children_at u k)
      by true e = subst (λ z. Row ms z (children_at u z)) (eqb-true p.0 k e) (subst (Row ms p.0) (sym m.children_here) here)
      by false e = other k e

-- where a node is put in
pub put_shows : (ns ms : List Linked) (t u : Nodes) (p x : NodeId) (r q : Option NodeId) → Shows ns t → AreTrees t → Moved t u p x (put_before r x (children_at t p.0)) (Some p)
    → IsLinkedIn ns ms p.0 q x r → q ≡ backward ns (place_of p.0 r) → in_or_end r (children_at t p.0) ≡ true → parent_at t x.0 ≡ None → Shows ms u
put_shows ns ms t u p x r q s a m w q_is r_in alone = record {
  long = m.long ∙ s.long ∙ sym w.rewired.long;
  content = λ k. m.content k ∙ s.content k ∙ sym (w.rewired.content k);
  parent = same_parent ns ms t u p x (put_before r x (children_at t p.0)) (Some p) q r s a m w.rewired q_in r_in;
  rows = rows_from ns ms t u p x (put_before r x (children_at t p.0)) (Some p) q r s a m w.rewired q_in r_in row (λ k ne. other_row ns ms t u p x (put_before r x (children_at t p.0)) (Some p) q r s a m w.rewired q_in r_in k ne (not_x k));
  alone = λ c e. no_neighbours c e (nat_eq x.0 c.0) refl;
}
  where
    q_in : in_or_end q (children_at t p.0) ≡ true
    q_in = ap (λ z. in_or_end z (children_at t p.0)) q_is ∙ back_in ns p.0 r (children_at t p.0) (s.rows p.0) r_in

    x_out : (k : ℕ) → has x.0 (children_at t k) ≡ false
    x_out k = a.agree k x.0 ∙ ap (λ z. is_this k z) alone

    not_x : (k : ℕ) (d : NodeId) → has d.0 (children_at t k) ≡ true → nat_eq d.0 x.0 ≡ false
    not_x k d i = eq_sym d.0 x.0 ∙ in_apart x d (children_at t k) (x_out k) i

    row : Row ms p.0 (put_before r x (children_at t p.0))
    row =
        put_in (λ z. forward ns (place_of p.0 z)) (λ z. backward ns (place_of p.0 z)) (λ z. forward ms (place_of p.0 z)) (λ z. backward ms (place_of p.0 z)) q x r
        (record {
          front = w.front;
          ahead = w.ahead;
          behind = w.behind;
          back = w.back;
          forward = λ z f g. w.rewired.forward_other (place_of p.0 z) (λ e. f (place_one p.0 z q e)) (λ e. g (place_one p.0 z (Some x) e));
          backward = λ z f g. w.rewired.backward_other (place_of p.0 z) (λ e. f (place_one p.0 z r e)) (λ e. g (place_one p.0 z (Some x) e));
        })
        q_is None (children_at t p.0) (s.rows p.0) r_in (x_out p.0) (a.distinct p.0) refl (λ e. cc)

    no_neighbours : (c : NodeId) → parent_at u c.0 ≡ None → (b : Bool) → nat_eq x.0 c.0 ≡ b → (forward ms (beside c) ≡ None) × (backward ms (beside c) ≡ None)
    no_neighbours c e true f = let bad : Some p ≡ None = sym m.parent_here ∙ ap (parent_at u) (eqb-true x.0 c.0 f) ∙ e in cc
    no_neighbours c e false f =
        let up : parent_at t c.0 ≡ None = sym (m.parent_other c.0 f) ∙ e in
        let out : has c.0 (children_at t p.0) ≡ false = a.agree p.0 c.0 ∙ ap (λ z. is_this p.0 z) up in
        let ne : nat_eq c.0 x.0 ≡ false = eq_sym c.0 x.0 ∙ f in
        let old = s.alone c up in
        (far_forward ns ms t u p x (put_before r x (children_at t p.0)) (Some p) q r s a m w.rewired q_in r_in c out ne ∙ old.0, far_backward ns ms t u p x (put_before r x (children_at t p.0)) (Some p) q r s a m w.rewired q_in r_in c out ne ∙ old.1)

-- where one is taken out
pub take_shows : (ns ms : List Linked) (t u : Nodes) (p x : NodeId) (q r : Option NodeId) → Shows ns t → AreTrees t → Moved t u p x (without x.0 (children_at t p.0)) None
    → IsLinkedOut ns ms p.0 q x r → q ≡ backward ns (beside x) → r ≡ forward ns (beside x) → has x.0 (children_at t p.0) ≡ true → Shows ms u
take_shows ns ms t u p x q r s a m w q_is r_is x_in = record {
  long = m.long ∙ s.long ∙ sym w.rewired.long;
  content = λ k. m.content k ∙ s.content k ∙ sym (w.rewired.content k);
  parent = same_parent ns ms t u p x (without x.0 (children_at t p.0)) None q r s a m w.rewired q_in r_in;
  rows = rows_from ns ms t u p x (without x.0 (children_at t p.0)) None q r s a m w.rewired q_in r_in row (λ k ne. other_row ns ms t u p x (without x.0 (children_at t p.0)) None q r s a m w.rewired q_in r_in k ne (not_x k ne));
  alone = λ c e. no_neighbours c e (nat_eq x.0 c.0) refl;
}
  where
    q_in : in_or_end q (children_at t p.0) ≡ true
    q_in = ap (λ z. in_or_end z (children_at t p.0)) q_is ∙ back_in ns p.0 (Some x) (children_at t p.0) (s.rows p.0) x_in

    r_in : in_or_end r (children_at t p.0) ≡ true
    r_in = ap (λ z. in_or_end z (children_at t p.0)) r_is ∙ forth_in ns p.0 x (children_at t p.0) (s.rows p.0) x_in

    not_x : (k : ℕ) → nat_eq p.0 k ≡ false → (d : NodeId) → has d.0 (children_at t k) ≡ true → nat_eq d.0 x.0 ≡ false
    not_x k ne d i = in_apart d x (children_at t p.0) (elsewhere t a p.0 k d.0 ne i) x_in

    row : Row ms p.0 (without x.0 (children_at t p.0))
    row =
        take_out (λ z. forward ns (place_of p.0 z)) (λ z. backward ns (place_of p.0 z)) (λ z. forward ms (place_of p.0 z)) (λ z. backward ms (place_of p.0 z)) q x r
        (record {
          front = w.front;
          back = w.back;
          forward = λ z f g. w.rewired.forward_other (place_of p.0 z) (λ e. f (place_one p.0 z q e)) (λ e. g (place_one p.0 z (Some x) e));
          backward = λ z f g. w.rewired.backward_other (place_of p.0 z) (λ e. f (place_one p.0 z r e)) (λ e. g (place_one p.0 z (Some x) e));
        })
        q_is r_is None (children_at t p.0) (s.rows p.0) x_in (a.distinct p.0) refl

    no_neighbours : (c : NodeId) → parent_at u c.0 ≡ None → (b : Bool) → nat_eq x.0 c.0 ≡ b → (forward ms (beside c) ≡ None) × (backward ms (beside c) ≡ None)
    no_neighbours c e true f =
        let same : x ≡ c = same_id x c f in
        subst (λ z. (forward ms (beside z) ≡ None) × (backward ms (beside z) ≡ None)) same (w.ahead, w.behind)
    no_neighbours c e false f =
        let up : parent_at t c.0 ≡ None = sym (m.parent_other c.0 f) ∙ e in
        let out : has c.0 (children_at t p.0) ≡ false = a.agree p.0 c.0 ∙ ap (λ z. is_this p.0 z) up in
        let ne : nat_eq c.0 x.0 ≡ false = eq_sym c.0 x.0 ∙ f in
        let old = s.alone c up in
        (far_forward ns ms t u p x (without x.0 (children_at t p.0)) None q r s a m w.rewired q_in r_in c out ne ∙ old.0, far_backward ns ms t u p x (without x.0 (children_at t p.0)) None q r s a m w.rewired q_in r_in c out ne ∙ old.1)
