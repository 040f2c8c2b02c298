-- What writes of links make of the lists of children.
use Rattle.std.proofs.Common.{◌≡◌, refl, sym, ap, ◌∙◌, ℕ, ◌<◌, Bool, true, false, cond, nat_eq, List, Option, Some, None, length, length-set, arith}
use Rattle.std.proofs.lemmas.Bool.{eqb-true, eqb-false}
use Rattle.std.proofs.lemmas.List.{get_or-set_same, get_or-set_other}
use Rattle.js_values.specs.declared.ids.NodeId.{NodeId}
use Rattle.dom_tree.specs.declared.links.Linked.{Linked}
use Rattle.dom_tree.specs.declared.links.Links.{Links}
use Rattle.dom_tree.specs.Links.{Place, backward, beside, ends, forward, linked_at, linked_in, linked_out, links_at, no_linked, place_of, with_backward, with_first, with_forward, with_last, with_link_up, with_links, with_next, with_previous, with_up}
use Rattle.dom_tree.proofs.Lists.{eq_refl, id_of, same_id}

-- the links of one node become others
module _ (ns : List Linked) (i : ℕ) (new : Links) (i_in : i < length ns) where
  at_set : (k : ℕ) → linked_at (with_links ns i new) k ≡ cond (nat_eq i k) (record { content = (linked_at ns i).content; links = new }) (linked_at ns k)
  at_set k = go (nat_eq i k) refl
    where
      go : (b : Bool) → nat_eq i k ≡ b → linked_at (with_links ns i new) k ≡ cond b (record { content = (linked_at ns i).content; links = new }) (linked_at ns k)
      go true e = ap (linked_at (with_links ns i new)) (sym (eqb-true i k e)) ∙ get_or-set_same ns i (record { content = (linked_at ns i).content; links = new }) no_linked i_in
      go false e = get_or-set_other ns i k (record { content = (linked_at ns i).content; links = new }) no_linked (λ f. eqb-false i k e (sym f))

  links_set : (k : ℕ) → links_at (with_links ns i new) k ≡ cond (nat_eq i k) new (links_at ns k)
  links_set k = ap (λ (n : Linked). n.links) (at_set k) ∙ go (nat_eq i k)
    where
      go : (b : Bool) → (cond b (record { content = (linked_at ns i).content; links = new }) (linked_at ns k)).links ≡ cond b new (links_at ns k)
      go true = refl
      go false = refl

  content_kept : (k : ℕ) → (linked_at (with_links ns i new) k).content ≡ (linked_at ns k).content
  content_kept k = ap (λ (n : Linked). n.content) (at_set k) ∙ go (nat_eq i k) refl
    where
      go : (b : Bool) → nat_eq i k ≡ b → (cond b (record { content = (linked_at ns i).content; links = new }) (linked_at ns k)).content ≡ (linked_at ns k).content
      go true e = ap (λ z. (linked_at ns z).content) (eqb-true i k e)
      go false e = refl

  long_kept : length (with_links ns i new) ≡ length ns
  long_kept = length-set ns i (record { content = (linked_at ns i).content; links = new })

  kept : (f : Links → Option NodeId) → f new ≡ f (links_at ns i) → (k : ℕ) → f (links_at (with_links ns i new) k) ≡ f (links_at ns k)
  kept f same k = ap f (links_set k) ∙ go (nat_eq i k) refl
    where
      go : (b : Bool) → nat_eq i k ≡ b → f (cond b new (links_at ns k)) ≡ f (links_at ns k)
      go true e = same ∙ ap (λ z. f (links_at ns z)) (eqb-true i k e)
      go false e = refl

  gets : (f : Links → Option NodeId) → f (links_at (with_links ns i new) i) ≡ f new
  gets f = ap f (links_set i) ∙ ap (λ b. f (cond b new (links_at ns i))) (eq_refl i)

  others : (f : Links → Option NodeId) (k : ℕ) → nat_eq i k ≡ false → f (links_at (with_links ns i new) k) ≡ f (links_at ns k)
  others f k ne = ap f (links_set k) ∙ ap (λ b. f (cond b new (links_at ns k))) ne

abbrev pub is_in : List Linked → Place → Type 0
is_in ns (ends p) = p < length ns
is_in ns (beside c) = c.0 < length ns

apart_ends : (p q : ℕ) → (ends q ≡ ends p → ⊥) → nat_eq p q ≡ false
apart_ends p q ne = by (nat_eq p q) refl
  where
    by : (b : Bool) → nat_eq p q ≡ b → b ≡ false
    by true e = absurd (ne (ap ends (sym (eqb-true p q e))))
    by false e = refl

apart_beside : (c d : NodeId) → (beside d ≡ beside c → ⊥) → nat_eq c.0 d.0 ≡ false
apart_beside c d ne = by (nat_eq c.0 d.0) refl
  where
    by : (b : Bool) → nat_eq c.0 d.0 ≡ b → b ≡ false
    by true e = absurd (ne (ap beside (sym (same_id c d e))))
    by false e = refl

-- one link forward is written, one backward, or one to a parent
pub record SetsForward (ns ms : List Linked) (s : Place) (to : Option NodeId) : Type 0 where
  pub long : length ms ≡ length ns
  pub content : (k : ℕ) → (linked_at ms k).content ≡ (linked_at ns k).content
  pub parent : (k : ℕ) → (links_at ms k).parent ≡ (links_at ns k).parent
  pub here : forward ms s ≡ to
  pub others : (z : Place) → (z ≡ s → ⊥) → forward ms z ≡ forward ns z
  pub backward : (z : Place) → backward ms z ≡ backward ns z

pub record SetsBackward (ns ms : List Linked) (s : Place) (to : Option NodeId) : Type 0 where
  pub long : length ms ≡ length ns
  pub content : (k : ℕ) → (linked_at ms k).content ≡ (linked_at ns k).content
  pub parent : (k : ℕ) → (links_at ms k).parent ≡ (links_at ns k).parent
  pub here : backward ms s ≡ to
  pub others : (z : Place) → (z ≡ s → ⊥) → backward ms z ≡ backward ns z
  pub forward : (z : Place) → forward ms z ≡ forward ns z

pub record SetsParent (ns ms : List Linked) (x : ℕ) (to : Option NodeId) : Type 0 where
  pub long : length ms ≡ length ns
  pub content : (k : ℕ) → (linked_at ms k).content ≡ (linked_at ns k).content
  pub here : (links_at ms x).parent ≡ to
  pub others : (k : ℕ) → nat_eq x k ≡ false → (links_at ms k).parent ≡ (links_at ns k).parent
  pub forward : (z : Place) → forward ms z ≡ forward ns z
  pub backward : (z : Place) → backward ms z ≡ backward ns z

pub sets_forward : (ns : List Linked) (s : Place) (to : Option NodeId) → is_in ns s → SetsForward ns (with_forward ns s to) s to
sets_forward ns (ends p) to h = record {
  long = long_kept ns p (with_first (links_at ns p) to) h;
  content = content_kept ns p (with_first (links_at ns p) to) h;
  parent = kept ns p (with_first (links_at ns p) to) h (λ l. l.parent) refl;
  here = gets ns p (with_first (links_at ns p) to) h (λ l. l.first);
  others = far;
  backward = still;
}
  where
    far : (z : Place) → (z ≡ ends p → ⊥) → forward (with_links ns p (with_first (links_at ns p) to)) z ≡ forward ns z
    far (ends q) ne = others ns p (with_first (links_at ns p) to) h (λ l. l.first) q (apart_ends p q ne)
    far (beside c) ne = kept ns p (with_first (links_at ns p) to) h (λ l. l.next) refl c.0

    still : (z : Place) → backward (with_links ns p (with_first (links_at ns p) to)) z ≡ backward ns z
    still (ends q) = kept ns p (with_first (links_at ns p) to) h (λ l. l.last) refl q
    still (beside c) = kept ns p (with_first (links_at ns p) to) h (λ l. l.previous) refl c.0
sets_forward ns (beside x) to h = record {
  long = long_kept ns x.0 (with_next (links_at ns x.0) to) h;
  content = content_kept ns x.0 (with_next (links_at ns x.0) to) h;
  parent = kept ns x.0 (with_next (links_at ns x.0) to) h (λ l. l.parent) refl;
  here = gets ns x.0 (with_next (links_at ns x.0) to) h (λ l. l.next);
  others = far;
  backward = still;
}
  where
    far : (z : Place) → (z ≡ beside x → ⊥) → forward (with_links ns x.0 (with_next (links_at ns x.0) to)) z ≡ forward ns z
    far (ends q) ne = kept ns x.0 (with_next (links_at ns x.0) to) h (λ l. l.first) refl q
    far (beside c) ne = others ns x.0 (with_next (links_at ns x.0) to) h (λ l. l.next) c.0 (apart_beside x c ne)

    still : (z : Place) → backward (with_links ns x.0 (with_next (links_at ns x.0) to)) z ≡ backward ns z
    still (ends q) = kept ns x.0 (with_next (links_at ns x.0) to) h (λ l. l.last) refl q
    still (beside c) = kept ns x.0 (with_next (links_at ns x.0) to) h (λ l. l.previous) refl c.0

pub sets_backward : (ns : List Linked) (s : Place) (to : Option NodeId) → is_in ns s → SetsBackward ns (with_backward ns s to) s to
sets_backward ns (ends p) to h = record {
  long = long_kept ns p (with_last (links_at ns p) to) h;
  content = content_kept ns p (with_last (links_at ns p) to) h;
  parent = kept ns p (with_last (links_at ns p) to) h (λ l. l.parent) refl;
  here = gets ns p (with_last (links_at ns p) to) h (λ l. l.last);
  others = far;
  forward = still;
}
  where
    far : (z : Place) → (z ≡ ends p → ⊥) → backward (with_links ns p (with_last (links_at ns p) to)) z ≡ backward ns z
    far (ends q) ne = others ns p (with_last (links_at ns p) to) h (λ l. l.last) q (apart_ends p q ne)
    far (beside c) ne = kept ns p (with_last (links_at ns p) to) h (λ l. l.previous) refl c.0

    still : (z : Place) → forward (with_links ns p (with_last (links_at ns p) to)) z ≡ forward ns z
    still (ends q) = kept ns p (with_last (links_at ns p) to) h (λ l. l.first) refl q
    still (beside c) = kept ns p (with_last (links_at ns p) to) h (λ l. l.next) refl c.0
sets_backward ns (beside x) to h = record {
  long = long_kept ns x.0 (with_previous (links_at ns x.0) to) h;
  content = content_kept ns x.0 (with_previous (links_at ns x.0) to) h;
  parent = kept ns x.0 (with_previous (links_at ns x.0) to) h (λ l. l.parent) refl;
  here = gets ns x.0 (with_previous (links_at ns x.0) to) h (λ l. l.previous);
  others = far;
  forward = still;
}
  where
    far : (z : Place) → (z ≡ beside x → ⊥) → backward (with_links ns x.0 (with_previous (links_at ns x.0) to)) z ≡ backward ns z
    far (ends q) ne = kept ns x.0 (with_previous (links_at ns x.0) to) h (λ l. l.last) refl q
    far (beside c) ne = others ns x.0 (with_previous (links_at ns x.0) to) h (λ l. l.previous) c.0 (apart_beside x c ne)

    still : (z : Place) → forward (with_links ns x.0 (with_previous (links_at ns x.0) to)) z ≡ forward ns z
    still (ends q) = kept ns x.0 (with_previous (links_at ns x.0) to) h (λ l. l.first) refl q
    still (beside c) = kept ns x.0 (with_previous (links_at ns x.0) to) h (λ l. l.next) refl c.0

pub sets_parent : (ns : List Linked) (x : ℕ) (to : Option NodeId) → x < length ns → SetsParent ns (with_link_up ns x to) x to
sets_parent ns x to h = record {
  long = long_kept ns x (with_up (links_at ns x) to) h;
  content = content_kept ns x (with_up (links_at ns x) to) h;
  here = gets ns x (with_up (links_at ns x) to) h (λ l. l.parent);
  others = others ns x (with_up (links_at ns x) to) h (λ l. l.parent);
  forward = forth;
  backward = back;
}
  where
    forth : (z : Place) → forward (with_links ns x (with_up (links_at ns x) to)) z ≡ forward ns z
    forth (ends q) = kept ns x (with_up (links_at ns x) to) h (λ l. l.first) refl q
    forth (beside c) = kept ns x (with_up (links_at ns x) to) h (λ l. l.next) refl c.0

    back : (z : Place) → backward (with_links ns x (with_up (links_at ns x) to)) z ≡ backward ns z
    back (ends q) = kept ns x (with_up (links_at ns x) to) h (λ l. l.last) refl q
    back (beside c) = kept ns x (with_up (links_at ns x) to) h (λ l. l.previous) refl c.0

-- the links after some are written for a node x between two places among the children of p
pub record Rewired (ns ms : List Linked) (p : ℕ) (q : Option NodeId) (x : NodeId) (r : Option NodeId) (o : Option NodeId) : Type 0 where
  pub long : length ms ≡ length ns
  pub content : (k : ℕ) → (linked_at ms k).content ≡ (linked_at ns k).content
  pub parent_here : (links_at ms x.0).parent ≡ o
  pub parent_other : (k : ℕ) → nat_eq x.0 k ≡ false → (links_at ms k).parent ≡ (links_at ns k).parent
  pub forward_other : (z : Place) → (z ≡ place_of p q → ⊥) → (z ≡ beside x → ⊥) → forward ms z ≡ forward ns z
  pub backward_other : (z : Place) → (z ≡ place_of p r → ⊥) → (z ≡ beside x → ⊥) → backward ms z ≡ backward ns z

pub record IsLinkedIn (ns ms : List Linked) (p : ℕ) (q : Option NodeId) (x : NodeId) (r : Option NodeId) : Type 0 where
  pub rewired : Rewired ns ms p q x r (Some (id_of p))
  pub front : forward ms (place_of p q) ≡ Some x
  pub ahead : forward ms (beside x) ≡ r
  pub behind : backward ms (beside x) ≡ q
  pub back : backward ms (place_of p r) ≡ Some x

pub record IsLinkedOut (ns ms : List Linked) (p : ℕ) (q : Option NodeId) (x : NodeId) (r : Option NodeId) : Type 0 where
  pub rewired : Rewired ns ms p q x r None
  pub front : forward ms (place_of p q) ≡ r
  pub ahead : forward ms (beside x) ≡ None
  pub behind : backward ms (beside x) ≡ None
  pub back : backward ms (place_of p r) ≡ q

pub is_in_long : (ns ms : List Linked) (s : Place) → length ms ≡ length ns → is_in ns s → is_in ms s
is_in_long ns ms (ends p) e h = omega (arith, e, h)
is_in_long ns ms (beside c) e h = omega (arith, e, h)

-- the four writes beside x, one after the other
module _ (ns : List Linked) (p : ℕ) (q : Option NodeId) (x : NodeId) (r : Option NodeId) where
  abbrev in_1 : List Linked
  in_1 = with_forward ns (place_of p q) (Some x)

  abbrev in_2 : List Linked
  in_2 = with_backward in_1 (beside x) q

  abbrev in_3 : List Linked
  in_3 = with_forward in_2 (beside x) r

  abbrev in_4 : List Linked
  in_4 = with_backward in_3 (place_of p r) (Some x)

  abbrev out_1 : List Linked
  out_1 = with_forward ns (place_of p q) r

  abbrev out_2 : List Linked
  out_2 = with_backward out_1 (place_of p r) q

  abbrev out_3 : List Linked
  out_3 = with_forward out_2 (beside x) None

  abbrev out_4 : List Linked
  out_4 = with_backward out_3 (beside x) None

  pub is_linked_in : is_in ns (place_of p q) → x.0 < length ns → is_in ns (place_of p r)
      → (place_of p q ≡ beside x → ⊥) → (place_of p r ≡ beside x → ⊥) → IsLinkedIn ns (linked_in ns p q x r) p q x r
  is_linked_in q_in x_in r_in q_not r_not =
      let A : SetsForward ns in_1 (place_of p q) (Some x) = sets_forward ns (place_of p q) (Some x) q_in in
      let B : SetsBackward in_1 in_2 (beside x) q = sets_backward in_1 (beside x) q (is_in_long ns in_1 (beside x) A.long x_in) in
      let to_2 : length in_2 ≡ length ns = B.long ∙ A.long in
      let C : SetsForward in_2 in_3 (beside x) r = sets_forward in_2 (beside x) r (is_in_long ns in_2 (beside x) to_2 x_in) in
      let to_3 : length in_3 ≡ length ns = C.long ∙ to_2 in
      let D : SetsBackward in_3 in_4 (place_of p r) (Some x) = sets_backward in_3 (place_of p r) (Some x) (is_in_long ns in_3 (place_of p r) to_3 r_in) in
      let E : SetsParent in_4 (with_link_up in_4 x.0 (Some (id_of p))) x.0 (Some (id_of p)) = sets_parent in_4 x.0 (Some (id_of p)) (is_in_long ns in_4 (beside x) (D.long ∙ to_3) x_in) in
      record {
        rewired = record {
          long = E.long ∙ D.long ∙ to_3;
          content = λ k. E.content k ∙ D.content k ∙ C.content k ∙ B.content k ∙ A.content k;
          parent_here = E.here;
          parent_other = λ k ne. E.others k ne ∙ D.parent k ∙ C.parent k ∙ B.parent k ∙ A.parent k;
          forward_other = λ z f g. E.forward z ∙ D.forward z ∙ C.others z g ∙ B.forward z ∙ A.others z f;
          backward_other = λ z f g. E.backward z ∙ D.others z f ∙ C.backward z ∙ B.others z g ∙ A.backward z;
        };
        front = E.forward (place_of p q) ∙ D.forward (place_of p q) ∙ C.others (place_of p q) q_not ∙ B.forward (place_of p q) ∙ A.here;
        ahead = E.forward (beside x) ∙ D.forward (beside x) ∙ C.here;
        behind = E.backward (beside x) ∙ D.others (beside x) (λ f. r_not (sym f)) ∙ C.backward (beside x) ∙ B.here;
        back = E.backward (place_of p r) ∙ D.here;
      }

  out_links : is_in ns (place_of p q) → x.0 < length ns → is_in ns (place_of p r)
      → (place_of p q ≡ beside x → ⊥) → (place_of p r ≡ beside x → ⊥) → IsLinkedOut ns (with_link_up out_4 x.0 None) p q x r
  out_links q_in x_in r_in q_not r_not =
      let A : SetsForward ns out_1 (place_of p q) r = sets_forward ns (place_of p q) r q_in in
      let B : SetsBackward out_1 out_2 (place_of p r) q = sets_backward out_1 (place_of p r) q (is_in_long ns out_1 (place_of p r) A.long r_in) in
      let to_2 : length out_2 ≡ length ns = B.long ∙ A.long in
      let C : SetsForward out_2 out_3 (beside x) None = sets_forward out_2 (beside x) None (is_in_long ns out_2 (beside x) to_2 x_in) in
      let to_3 : length out_3 ≡ length ns = C.long ∙ to_2 in
      let D : SetsBackward out_3 out_4 (beside x) None = sets_backward out_3 (beside x) None (is_in_long ns out_3 (beside x) to_3 x_in) in
      let E : SetsParent out_4 (with_link_up out_4 x.0 None) x.0 None = sets_parent out_4 x.0 None (is_in_long ns out_4 (beside x) (D.long ∙ to_3) x_in) in
      record {
        rewired = record {
          long = E.long ∙ D.long ∙ to_3;
          content = λ k. E.content k ∙ D.content k ∙ C.content k ∙ B.content k ∙ A.content k;
          parent_here = E.here;
          parent_other = λ k ne. E.others k ne ∙ D.parent k ∙ C.parent k ∙ B.parent k ∙ A.parent k;
          forward_other = λ z f g. E.forward z ∙ D.forward z ∙ C.others z g ∙ B.forward z ∙ A.others z f;
          backward_other = λ z f g. E.backward z ∙ D.others z g ∙ C.backward z ∙ B.others z f ∙ A.backward z;
        };
        front = E.forward (place_of p q) ∙ D.forward (place_of p q) ∙ C.others (place_of p q) q_not ∙ B.forward (place_of p q) ∙ A.here;
        ahead = E.forward (beside x) ∙ D.forward (beside x) ∙ C.here;
        behind = E.backward (beside x) ∙ D.here;
        back = E.backward (place_of p r) ∙ D.others (place_of p r) r_not ∙ C.backward (place_of p r) ∙ B.here;
      }

pub is_linked_out : (ns : List Linked) (p : ℕ) (x : NodeId) → is_in ns (place_of p (backward ns (beside x))) → x.0 < length ns → is_in ns (place_of p (forward ns (beside x)))
    → (place_of p (backward ns (beside x)) ≡ beside x → ⊥) → (place_of p (forward ns (beside x)) ≡ beside x → ⊥)
    → IsLinkedOut ns (linked_out ns p x) p (backward ns (beside x)) x (forward ns (beside x))
is_linked_out ns p x = out_links ns p (backward ns (beside x)) x (forward ns (beside x))
