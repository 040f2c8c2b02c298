-- What holds of the nodes stays so where a node is put in or taken out.
use Rattle.std.proofs.Common.{◌≡◌, refl, sym, ap, subst, ◌∙◌, ℕ, zero, suc, ◌+◌, ◌-◌, ◌<◌, ◌≤◌, Bool, true, false, cond, ◌&&◌, ◌||◌, not, nat_eq, List, [], ◌∷◌, Option, Some, None, filter, length, arith}
use Rattle.std.proofs.lemmas.Bool.{and_right, both_ways, eqb-true, not-false, or_parts}
use Rattle.std.specs.List.{list_all, list_any}
use Rattle.std.specs.Option.{ForSome, is_none, option_to_list}
use Rattle.std.proofs.Math.Bool.{or-false}
use Rattle.js_values.specs.declared.ids.NodeId.{NodeId}
use Rattle.dom_tree.specs.declared.content.Content.{Content}
use Rattle.dom_tree.specs.declared.content.Kind.{Kind}
use Rattle.dom_tree.specs.declared.links.Linked.{Linked}
use Rattle.dom_tree.specs.Change.{breaks_hierarchy, has_other_element, has_third_element, is_above, is_above_within, is_misplaced, is_missing, of_parent, put_before, taken_from, taken_out, without}
use Rattle.dom_tree.specs.Links.{AreLinked, Shows, backward, beside, forward, linked_in, linked_out, nodes_of, place_of}
use Rattle.dom_tree.specs.Node.{Nodes, children_at, first_of, has, is_document, is_element, is_text, is_this, kind_at, may_have_children, parent_at}
use Rattle.dom_tree.specs.Sound.{AreTrees, IsSound, elements_of, is_proper}
use Rattle.dom_tree.specs.Fits.{Fits, IsReady, in_or_end, top_with, top_without}
use Rattle.dom_tree.proofs.Chains.{not_self_back, not_self_forth}
use Rattle.dom_tree.proofs.Kept.{filter_same, linked, all_same, one_at_most}
use Rattle.dom_tree.proofs.Linking.{is_linked_in, is_linked_out}
use Rattle.dom_tree.proofs.Lists.{all_put, all_without, any_without, eq_refl, eq_sym, has_without_other, id_of, filter_put_alone, filter_put_skip, filter_without, gone, has_head, none_left, not_in_filter}
use Rattle.dom_tree.proofs.Shown.{back_in, forth_in, not_beside, put_shows, place_one, range_of, take_shows}
use Rattle.dom_tree.proofs.Trees.{Moved, child_in, child_of_parent, moved, parent_in, put_trees, take_trees}

module _ (t u : Nodes) (p x : NodeId) (l : List NodeId) (o : Option NodeId) (m : Moved t u p x l o) where
  -- a test of kinds gives the same
  kind_same : {X : Type 0} (f : Kind → X) (k : ℕ) → f (kind_at u k) ≡ f (kind_at t k)
  kind_same f k = ap (λ (c : Content). f c.kind) (m.content k)

  elements_same : (cs : List NodeId) → filter (λ c. is_element (kind_at u c.0)) cs ≡ filter (λ c. is_element (kind_at t c.0)) cs
  elements_same cs = filter_same (λ c. is_element (kind_at u c.0)) (λ c. is_element (kind_at t c.0)) cs (λ c i. kind_same is_element c.0)

  -- what a test of all children of the first node gives
  first_kids : {X : Type 0} (f : List NodeId → X) (v : X) → (nat_eq p.0 0 ≡ true → f l ≡ v) → (nat_eq p.0 0 ≡ false → f (children_at t 0) ≡ v) → f (children_at u 0) ≡ v
  first_kids f v here other = by (nat_eq p.0 0) refl
    where
      by : (b : Bool) → nat_eq p.0 0 ≡ b → f (children_at u 0) ≡ v
      by true e = ap (λ k. f (children_at u k)) (sym (eqb-true p.0 0 e)) ∙ ap f m.children_here ∙ here e
      by false e = ap f (m.children_other 0 e) ∙ other e

  moved_sound : (top : Option NodeId) → IsSound t → AreTrees u → nat_eq x.0 0 ≡ false → (may_have_children (kind_at t p.0) ≡ false → l ≡ [])
      → (nat_eq p.0 0 ≡ true → list_all (λ c. not (is_text (kind_at t c.0))) l ≡ true) → elements_of u ≡ option_to_list top → IsSound u
  moved_sound top s trees x_not leaf text e = record {
    trees = trees;
    proper = λ k. ap is_proper (m.content k) ∙ s.proper k;
    leaves = λ k h. leaves k (sym (kind_same may_have_children k) ∙ h) (nat_eq p.0 k) refl;
    document = λ k. kind_same is_document k ∙ s.document k;
    root = m.parent_other 0 x_not ∙ s.root;
    no_text =
        all_same (λ c. not (is_text (kind_at u c.0))) (λ c. not (is_text (kind_at t c.0))) (children_at u 0) (λ c i. kind_same (λ k. not (is_text k)) c.0)
        ∙ first_kids (list_all (λ c. not (is_text (kind_at t c.0)))) true text (λ h. s.no_text);
    one_element = subst (λ cs. length cs ≤ 1) (sym e) (one_at_most top);
  }
    where
      leaves : (k : ℕ) → may_have_children (kind_at t k) ≡ false → (b : Bool) → nat_eq p.0 k ≡ b → children_at u k ≡ []
      leaves k h true f =
          let same : p.0 ≡ k = eqb-true p.0 k f in
          ap (children_at u) (sym same) ∙ m.children_here ∙ leaf (ap (λ z. may_have_children (kind_at t z)) same ∙ h)
      leaves k h false f = m.children_other k f ∙ s.leaves k h

without_top : (x : ℕ) (top : Option NodeId) → without x (option_to_list top) ≡ option_to_list (top_without x top)
without_top x None = refl
without_top x (Some c) = go (nat_eq x c.0)
  where
    go : (b : Bool) → cond b [] (c ∷ []) ≡ option_to_list (cond b None (Some c))
    go true = refl
    go false = refl

not_first : (t : Nodes) → IsSound t → (k : ℕ) → is_document (kind_at t k) ≡ false → nat_eq k 0 ≡ false
not_first t s k h = sym (s.document k) ∙ h

has_parent_not_first : (t : Nodes) → IsSound t → (k : ℕ) (p : NodeId) → parent_at t k ≡ Some p → nat_eq k 0 ≡ false
has_parent_not_first t s k p e = by (nat_eq k 0) refl
  where
    by : (b : Bool) → nat_eq k 0 ≡ b → b ≡ false
    by true f = let bad : None ≡ Some p = sym s.root ∙ ap (parent_at t) (sym (eqb-true k 0 f)) ∙ e in cc
    by false f = refl

second : (a b : Bool) → a ≡ true → a && b ≡ false → b ≡ false
second true b e h = h
second false b e h = absurd (let bad : false ≡ true = e in cc)

module _ (t : Nodes) (p x : NodeId) where
  abbrev others : Bool
  others = has_other_element t x.0

  misplaced_parts : is_document (kind_at t p.0) && is_misplaced t x.0 ≡ false → is_document (kind_at t p.0) ≡ true
      → (is_text (kind_at t x.0) ≡ false) × (is_element (kind_at t x.0) && others ≡ false)
  misplaced_parts h d = or_parts (is_text (kind_at t x.0)) (is_element (kind_at t x.0) && others) (second (is_document (kind_at t p.0)) (is_misplaced t x.0) d h)

  pub fits : (r : Option NodeId) → breaks_hierarchy t p.0 x.0 ≡ false → is_missing t p.0 r ≡ false → Fits t p x r
  fits r h found =
      let whole = or_parts (not (may_have_children (kind_at t p.0)) || is_document (kind_at t x.0) || is_above t x.0 p.0) (is_document (kind_at t p.0) && is_misplaced t x.0) h in
      let front = or_parts (not (may_have_children (kind_at t p.0)) || is_document (kind_at t x.0)) (is_above t x.0 p.0) whole.0 in
      let kinds = or_parts (not (may_have_children (kind_at t p.0))) (is_document (kind_at t x.0)) front.0 in
      record {
        holds = not-false (may_have_children (kind_at t p.0)) kinds.0;
        no_document = kinds.1;
        not_above = front.1;
        no_text = λ d. (misplaced_parts whole.1 d).0;
        no_other = λ d f. second (is_element (kind_at t x.0)) others f (misplaced_parts whole.1 d).1;
        there = there r found;
      }
    where
      there : (z : Option NodeId) → is_missing t p.0 z ≡ false → in_or_end z (children_at t p.0) ≡ true
      there None f = refl
      there (Some c) f = not-false (has c.0 (children_at t p.0)) f

-- nodes that are sound, with the element under the document
pub record AreSoundWith (t : Nodes) (top : Option NodeId) : Type 0 where
  pub sound : IsSound t
  pub element : elements_of t ≡ option_to_list top

module _ (t : Nodes) (top : Option NodeId) (p x : NodeId) (sound : IsSound t) (e : elements_of t ≡ option_to_list top) where
  abbrev less : List NodeId
  less = without x.0 (children_at t p.0)

  -- the nodes after one is taken out
  pub sound_out : (u : Nodes) → Moved t u p x less None → parent_at t x.0 ≡ Some p → AreSoundWith u (top_without x.0 top)
  sound_out u m up =
      let elements : elements_of u ≡ option_to_list (top_without x.0 top) = elements_same t u p x less None m (children_at u 0) ∙ elements_less m ∙ ap (without x.0) e ∙ without_top x.0 top in
      record {
        sound = moved_sound t u p x less None m (top_without x.0 top) sound (take_trees t u p x m up sound.trees) (has_parent_not_first t sound x.0 p up) leaf
            (λ z. all_without (λ c. not (is_text (kind_at t c.0))) x.0 (children_at t p.0) (ap (λ k. list_all (λ c. not (is_text (kind_at t c.0))) (children_at t k)) (eqb-true p.0 0 z) ∙ sound.no_text)) elements;
        element = elements;
      }
    where
      leaf : may_have_children (kind_at t p.0) ≡ false → less ≡ []
      leaf h = ap (without x.0) (sound.leaves p.0 h)

      elements_less : Moved t u p x less None → filter (λ c. is_element (kind_at t c.0)) (children_at u 0) ≡ without x.0 (elements_of t)
      elements_less m = first_kids t u p x less None m (filter (λ c. is_element (kind_at t c.0))) (without x.0 (elements_of t)) here other
        where
          here : nat_eq p.0 0 ≡ true → filter (λ c. is_element (kind_at t c.0)) less ≡ without x.0 (elements_of t)
          here z =
              filter_without (λ c. is_element (kind_at t c.0)) x.0 (children_at t p.0) (sound.trees.distinct p.0)
              ∙ ap (λ k. without x.0 (filter (λ c. is_element (kind_at t c.0)) (children_at t k))) (eqb-true p.0 0 z)

          other : nat_eq p.0 0 ≡ false → elements_of t ≡ without x.0 (elements_of t)
          other z =
              let out : has x.0 (children_at t 0) ≡ false = sound.trees.agree 0 x.0 ∙ ap (is_this 0) up ∙ eq_sym 0 p.0 ∙ z in
              sym (gone x.0 (elements_of t) (not_in_filter (λ c. is_element (kind_at t c.0)) x.0 (children_at t 0) out))

  abbrev more : Option NodeId → List NodeId
  more r = put_before r x (children_at t p.0)

  abbrev get_top : Option NodeId
  get_top = top_with x (is_document (kind_at t p.0) && is_element (kind_at t x.0)) top

  -- a node that is alone is no child yet
  not_in : parent_at t x.0 ≡ None → has x.0 (children_at t p.0) ≡ false
  not_in alone = sound.trees.agree p.0 x.0 ∙ ap (is_this p.0) alone

  -- the nodes after one that is alone is put in
  pub sound_in : (u : Nodes) (r : Option NodeId) → Moved t u p x (more r) (Some p) → p.0 < length t → parent_at t x.0 ≡ None → Fits t p x r → AreSoundWith u get_top
  sound_in u r m p_in alone f =
      let elements : elements_of u ≡ option_to_list get_top = elements_same t u p x (more r) (Some p) m (children_at u 0) ∙ elements_more in
      record {
        sound = moved_sound t u p x (more r) (Some p) m get_top sound (put_trees t u p x r m alone p_in f.not_above sound.trees) (not_first t sound x.0 f.no_document)
            (λ h. absurd (both_ways (may_have_children (kind_at t p.0)) h f.holds))
            (λ z. all_put (λ c. not (is_text (kind_at t c.0))) r x (children_at t p.0) (ap not (f.no_text (sound.document p.0 ∙ z)))
            (ap (λ k. list_all (λ c. not (is_text (kind_at t c.0))) (children_at t k)) (eqb-true p.0 0 z) ∙ sound.no_text)) elements;
        element = elements;
      }
    where
      kids_first : nat_eq p.0 0 ≡ true → filter (λ c. is_element (kind_at t c.0)) (children_at t p.0) ≡ elements_of t
      kids_first z = ap (λ k. filter (λ c. is_element (kind_at t c.0)) (children_at t k)) (eqb-true p.0 0 z)

      here : nat_eq p.0 0 ≡ true → (b : Bool) → is_element (kind_at t x.0) ≡ b → filter (λ c. is_element (kind_at t c.0)) (more r) ≡ option_to_list get_top
      here z true g =
          let d : is_document (kind_at t p.0) ≡ true = sound.document p.0 ∙ z in
          filter_put_alone (λ c. is_element (kind_at t c.0)) r x (children_at t p.0) g (none_left (λ c. is_element (kind_at t c.0)) x.0 (children_at t p.0) (ap (λ k. list_any (λ c. is_element (kind_at t c.0) && not (nat_eq x.0 c.0)) (children_at t k)) (eqb-true p.0 0 z) ∙ f.no_other d g) (not_in alone))
          ∙ rw (d, g) refl
      here z false g =
          let d : is_document (kind_at t p.0) ≡ true = sound.document p.0 ∙ z in
          filter_put_skip (λ c. is_element (kind_at t c.0)) r x (children_at t p.0) g ∙ kids_first z ∙ e ∙ rw (d, g) refl

      other : nat_eq p.0 0 ≡ false → elements_of t ≡ option_to_list get_top
      other z =
          let d : is_document (kind_at t p.0) ≡ false = sound.document p.0 ∙ z in
          e ∙ rw d refl

      elements_more : filter (λ c. is_element (kind_at t c.0)) (children_at u 0) ≡ option_to_list get_top
      elements_more = first_kids t u p x (more r) (Some p) m (filter (λ c. is_element (kind_at t c.0))) (option_to_list get_top) (λ z. here z (is_element (kind_at t x.0)) refl) other

module _ (ns : List Linked) (t : Nodes) (top : Option NodeId) (p x : NodeId) (s : Shows ns t) (sound : IsSound t) (e : elements_of t ≡ option_to_list top) where
  -- what the links tell after a node is taken out
  pub took_out : (u : Nodes) → Moved t u p x (less t top p x sound e) None → parent_at t x.0 ≡ Some p → (nodes_of (linked_out ns p.0 x) ≡ u) × AreLinked (linked_out ns p.0 x) (top_without x.0 top)
  took_out u m up =
      let a : AreTrees t = sound.trees in
      let i : has x.0 (children_at t p.0) ≡ true = child_of_parent t a x.0 p up in
      let p_in : p.0 < length t = parent_in t a x.0 p up in
      let x_in : x.0 < length t = child_in t a p.0 x.0 i in
      let q_end : in_or_end (backward ns (beside x)) (children_at t p.0) ≡ true = back_in ns p.0 (Some x) (children_at t p.0) (s.rows p.0) i in
      let r_end : in_or_end (forward ns (beside x)) (children_at t p.0) ≡ true = forth_in ns p.0 x (children_at t p.0) (s.rows p.0) i in
      let x_here : x.0 < length ns = omega (arith, x_in, s.long) in
      let w = is_linked_out ns p.0 x (range_of ns t p.0 (backward ns (beside x)) s a p_in q_end) x_here (range_of ns t p.0 (forward ns (beside x)) s a p_in r_end) (apart_back i) (apart_forth i) in
      let fine : AreSoundWith u (top_without x.0 top) = sound_out t top p x sound e u m up in
      linked (linked_out ns p.0 x) u (top_without x.0 top) (take_shows ns (linked_out ns p.0 x) t u p x (backward ns (beside x)) (forward ns (beside x)) s a m w refl refl i) fine.sound fine.element
    where
      apart_back : has x.0 (children_at t p.0) ≡ true → place_of p.0 (backward ns (beside x)) ≡ beside x → ⊥
      apart_back i f =
          not_self_back (λ z. forward ns (place_of p.0 z)) (λ z. backward ns (place_of p.0 z)) None x (children_at t p.0) (s.rows p.0) i (sound.trees.distinct p.0) refl (place_one p.0 (backward ns (beside x)) (Some x) f)

      apart_forth : has x.0 (children_at t p.0) ≡ true → place_of p.0 (forward ns (beside x)) ≡ beside x → ⊥
      apart_forth i f =
          not_self_forth (λ z. forward ns (place_of p.0 z)) (λ z. backward ns (place_of p.0 z)) None x (children_at t p.0) (s.rows p.0) i (sound.trees.distinct p.0) (place_one p.0 (forward ns (beside x)) (Some x) f)

  -- and after one that is alone is put in
  pub put_it : (u : Nodes) (r : Option NodeId) → Moved t u p x (more t top p x sound e r) (Some p) → p.0 < length t → x.0 < length t → parent_at t x.0 ≡ None → Fits t p x r
      → (nodes_of (linked_in ns p.0 (backward ns (place_of p.0 r)) x r) ≡ u) × AreLinked (linked_in ns p.0 (backward ns (place_of p.0 r)) x r) (get_top t top p x sound e)
  put_it u r m p_in x_in alone f =
      let a : AreTrees t = sound.trees in
      let q_end : in_or_end (backward ns (place_of p.0 r)) (children_at t p.0) ≡ true = back_in ns p.0 r (children_at t p.0) (s.rows p.0) f.there in
      let x_here : x.0 < length ns = omega (arith, x_in, s.long) in
      let x_out : has x.0 (children_at t p.0) ≡ false = not_in t top p x sound e alone in
      let w = is_linked_in ns p.0 (backward ns (place_of p.0 r)) x r (range_of ns t p.0 (backward ns (place_of p.0 r)) s a p_in q_end) x_here (range_of ns t p.0 r s a p_in f.there)
      (not_beside p.0 (backward ns (place_of p.0 r)) (children_at t p.0) x q_end x_out) (not_beside p.0 r (children_at t p.0) x f.there x_out)
      in
      let fine : AreSoundWith u (get_top t top p x sound e) = sound_in t top p x sound e u r m p_in alone f in
      linked (linked_in ns p.0 (backward ns (place_of p.0 r)) x r) u (get_top t top p x sound e) (put_shows ns (linked_in ns p.0 (backward ns (place_of p.0 r)) x r) t u p x r (backward ns (place_of p.0 r)) s a m w refl f.there alone) fine.sound fine.element

-- the tests of an insertion give the same after the node is taken out
above_at : (o : Option NodeId) (f g : ℕ → Bool) → ((k : ℕ) → f k ≡ g k) → of_parent o f ≡ of_parent o g
above_at None f g same = refl
above_at (Some q) f g same = same q.0

module _ (t u : Nodes) (p x : NodeId) (l : List NodeId) (o : Option NodeId) (m : Moved t u p x l o) where
  above_same : (n k : ℕ) → is_above_within u n x.0 k ≡ is_above_within t n x.0 k
  above_same zero k = refl
  above_same (suc n) k = by (nat_eq x.0 k) refl (above_at (parent_at t k) (λ z. is_above_within u n x.0 z) (λ z. is_above_within t n x.0 z) (above_same n))
    where
      by : (b : Bool) → nat_eq x.0 k ≡ b → of_parent (parent_at t k) (λ z. is_above_within u n x.0 z) ≡ of_parent (parent_at t k) (λ z. is_above_within t n x.0 z)
          → b || of_parent (parent_at u k) (λ z. is_above_within u n x.0 z) ≡ b || of_parent (parent_at t k) (λ z. is_above_within t n x.0 z)
      by true e h = refl
      by false e h = ap (λ z. of_parent z (λ z. is_above_within u n x.0 z)) (m.parent_other k e) ∙ h

pub any_same : (f g : NodeId → Bool) (l : List NodeId) → ((c : NodeId) → f c ≡ g c) → list_any f l ≡ list_any g l
any_same f g [] same = refl
any_same f g (c ∷ l) same = rw (same c, any_same f g l same) refl

module _ (t u : Nodes) (q x : NodeId) (m : Moved t u q x (without x.0 (children_at t q.0)) None) (p : NodeId) where
  same_kind : {X : Type 0} (f : Kind → X) (k : ℕ) → f (kind_at u k) ≡ f (kind_at t k)
  same_kind f k = kind_same t u q x (without x.0 (children_at t q.0)) None m f k

  other_after : (h : NodeId) → list_any (λ c. is_element (kind_at u c.0) && not (nat_eq x.0 c.0)) (children_at u h.0) ≡ list_any (λ c. is_element (kind_at t c.0) && not (nat_eq x.0 c.0)) (children_at t h.0)
  other_after h =
      any_same (λ c. is_element (kind_at u c.0) && not (nat_eq x.0 c.0)) (λ c. is_element (kind_at t c.0) && not (nat_eq x.0 c.0)) (children_at u h.0)
      (λ c. ap (λ b. b && not (nat_eq x.0 c.0)) (same_kind is_element c.0))
      ∙ by (nat_eq q.0 h.0) refl
    where
      not_itself : is_element (kind_at t x.0) && not (nat_eq x.0 x.0) ≡ false
      not_itself = and_right (is_element (kind_at t x.0)) (not (nat_eq x.0 x.0)) (ap not (eq_refl x.0))

      by : (b : Bool) → nat_eq q.0 h.0 ≡ b
          → list_any (λ c. is_element (kind_at t c.0) && not (nat_eq x.0 c.0)) (children_at u h.0) ≡ list_any (λ c. is_element (kind_at t c.0) && not (nat_eq x.0 c.0)) (children_at t h.0)
      by true e =
          let same : q.0 ≡ h.0 = eqb-true q.0 h.0 e in
          ap (λ k. list_any (λ c. is_element (kind_at t c.0) && not (nat_eq x.0 c.0)) (children_at u k)) (sym same)
          ∙ ap (list_any (λ c. is_element (kind_at t c.0) && not (nat_eq x.0 c.0))) m.children_here
          ∙ any_without (λ c. is_element (kind_at t c.0) && not (nat_eq x.0 c.0)) x (children_at t q.0) not_itself
          ∙ ap (λ k. list_any (λ c. is_element (kind_at t c.0) && not (nat_eq x.0 c.0)) (children_at t k)) same
      by false e = ap (list_any (λ c. is_element (kind_at t c.0) && not (nat_eq x.0 c.0))) (m.children_other h.0 e)

  other_first : has_other_element u x.0 ≡ has_other_element t x.0
  other_first = other_after (id_of 0)

  there_after : (z : Option NodeId) → is_this x.0 z ≡ false → in_or_end z (children_at t p.0) ≡ true → in_or_end z (children_at u p.0) ≡ true
  there_after None f h = refl
  there_after (Some c) f h = by (nat_eq q.0 p.0) refl
    where
      by : (b : Bool) → nat_eq q.0 p.0 ≡ b → has c.0 (children_at u p.0) ≡ true
      by true e =
          let same : q.0 ≡ p.0 = eqb-true q.0 p.0 e in
          ap (λ k. has c.0 (children_at u k)) (sym same) ∙ ap (has c.0) m.children_here ∙ has_without_other c.0 x.0 (children_at t q.0) (eq_sym c.0 x.0 ∙ f) ∙ ap (λ k. has c.0 (children_at t k)) same ∙ h
      by false e = ap (has c.0) (m.children_other p.0 e) ∙ h

  pub fits_moved : (r : Option NodeId) → is_this x.0 r ≡ false → Fits t p x r → Fits u p x r
  fits_moved r apart f = record {
    holds = same_kind may_have_children p.0 ∙ f.holds;
    no_document = same_kind is_document x.0 ∙ f.no_document;
    not_above = ap (λ n. is_above_within u n x.0 p.0) m.long ∙ above_same t u q x (without x.0 (children_at t q.0)) None m (length t) p.0 ∙ f.not_above;
    no_text = λ d. same_kind is_text x.0 ∙ f.no_text (sym (same_kind is_document p.0) ∙ d);
    no_other = λ d g. other_first ∙ f.no_other (sym (same_kind is_document p.0) ∙ d) (sym (same_kind is_element x.0) ∙ g);
    there = there_after r apart f.there;
  }

pub ready : (t : Nodes) (p x : NodeId) (r : Option NodeId) → AreTrees t → x.0 < length t → is_this x.0 r ≡ false → Fits t p x r → IsReady (taken_out t x) p x r (length t)
ready t p x r a x_in apart f = by (parent_at t x.0) refl
  where
    by : (o : Option NodeId) → parent_at t x.0 ≡ o → IsReady (taken_from t x o) p x r (length t)
    by None up = record { fits = f; alone = up; long = refl }
    by (Some q) up =
        let m = moved t q x (without x.0 (children_at t q.0)) None (parent_in t a x.0 q up) x_in in
        record { fits = fits_moved t (taken_from t x (Some q)) q x m p r apart f; alone = m.parent_here; long = m.long }

-- a node without children is above no other
pub above_childless : (t : Nodes) → AreTrees t → (x : ℕ) → children_at t x ≡ [] → (n k : ℕ) → is_above_within t (suc n) x k ≡ nat_eq x k
above_childless t a x none zero k = by (parent_at t k) (nat_eq x k)
  where
    by : (o : Option NodeId) (b : Bool) → b || of_parent o (λ z. false) ≡ b
    by None true = refl
    by None false = refl
    by (Some q) true = refl
    by (Some q) false = refl
above_childless t a x none (suc n) k = by (parent_at t k) refl (λ q. above_childless t a x none n q)
  where
    apart : (q : NodeId) → parent_at t k ≡ Some q → (b : Bool) → nat_eq x q.0 ≡ b → b ≡ false
    apart q up true e = absurd (both_ways (has k (children_at t q.0)) (ap (λ z. has k (children_at t z)) (sym (eqb-true x q.0 e)) ∙ ap (has k) none) (child_of_parent t a k q up))
    apart q up false e = refl

    by : (o : Option NodeId) → parent_at t k ≡ o → ((q : ℕ) → is_above_within t (suc n) x q ≡ nat_eq x q) → nat_eq x k || of_parent o (λ z. is_above_within t (suc n) x z) ≡ nat_eq x k
    by None up more = or-false (nat_eq x k)
    by (Some q) up more = ap (λ b. nat_eq x k || b) (more q.0 ∙ apart q up (nat_eq x q.0) refl) ∙ or-false (nat_eq x k)

-- whether an element but this one is under the document
any_filter : (f g : NodeId → Bool) (l : List NodeId) → list_any (λ c. f c && g c) l ≡ list_any g (filter f l)
any_filter f g [] = refl
any_filter f g (c ∷ l) = by (f c) (any_filter f g l)
  where
    by : (b : Bool) → list_any (λ d. f d && g d) l ≡ list_any g (filter f l) → (b && g c) || list_any (λ d. f d && g d) l ≡ list_any g (cond b (c ∷ filter f l) (filter f l))
    by true h = ap (λ r. g c || r) h
    by false h = h

pub other_element : (t : Nodes) (c : ℕ) (o : Option NodeId) → elements_of t ≡ option_to_list o → has_other_element t c ≡ list_any (λ e. not (nat_eq c e.0)) (option_to_list o)
other_element t c o e = any_filter (λ d. is_element (kind_at t d.0)) (λ d. not (nat_eq c d.0)) (children_at t 0) ∙ ap (list_any (λ d. not (nat_eq c d.0))) e

and_assoc : (a b c : Bool) → a && b && c ≡ a && (b && c)
and_assoc true b c = refl
and_assoc false b c = refl

pub third_element : (t : Nodes) (c old : ℕ) (o : Option NodeId) → elements_of t ≡ option_to_list o → has_third_element t c old ≡ list_any (λ e. not (nat_eq c e.0) && not (nat_eq old e.0)) (option_to_list o)
third_element t c old o e =
    any_same (λ d. is_element (kind_at t d.0) && not (nat_eq c d.0) && not (nat_eq old d.0)) (λ d. is_element (kind_at t d.0) && (not (nat_eq c d.0) && not (nat_eq old d.0))) (children_at t 0)
    (λ d. and_assoc (is_element (kind_at t d.0)) (not (nat_eq c d.0)) (not (nat_eq old d.0)))
    ∙ any_filter (λ d. is_element (kind_at t d.0)) (λ d. not (nat_eq c d.0) && not (nat_eq old d.0)) (children_at t 0)
    ∙ ap (list_any (λ d. not (nat_eq c d.0) && not (nat_eq old d.0))) e

-- the element of the document is a node
pub top_there : (t : Nodes) → AreTrees t → (o : Option NodeId) → elements_of t ≡ option_to_list o → ForSome o (λ k. k.0 < length t)
top_there t a o e k f = child_in t a 0 k.0 (by (has k.0 (children_at t 0)) refl)
  where
    among : has k.0 (elements_of t) ≡ true
    among = ap (has k.0) (e ∙ ap option_to_list f) ∙ has_head k []

    by : (b : Bool) → has k.0 (children_at t 0) ≡ b → b ≡ true
    by true i = refl
    by false i = absurd (both_ways (has k.0 (elements_of t)) (not_in_filter (λ c. is_element (kind_at t c.0)) k.0 (children_at t 0) i) among)

-- the steps of the way up
pub above_here : (t : Nodes) (n i x k : ℕ) → i < n → nat_eq x k ≡ true → is_above_within t (n - i) x k ≡ true
above_here t n i x k h e = let less : n - i ≡ suc (n - (i + 1)) = omega (arith, h) in rw less (rw e refl)

pub above_root : (t : Nodes) (n i x k : ℕ) → i < n → nat_eq x k ≡ false → parent_at t k ≡ None → is_above_within t (n - i) x k ≡ false
above_root t n i x k h e f = let less : n - i ≡ suc (n - (i + 1)) = omega (arith, h) in rw less (rw e (ap (λ o. of_parent o (λ p. is_above_within t (n - (i + 1)) x p)) f))

pub above_more : (t : Nodes) (n i x k : ℕ) (p : NodeId) → i < n → nat_eq x k ≡ false → parent_at t k ≡ Some p → is_above_within t (n - i) x k ≡ is_above_within t (n - (i + 1)) x p.0
above_more t n i x k p h e f = let less : n - i ≡ suc (n - (i + 1)) = omega (arith, h) in rw less (rw e (ap (λ o. of_parent o (λ p. is_above_within t (n - (i + 1)) x p)) f))

pub above_end : (t : Nodes) (n i x k : ℕ) → n ≤ i → is_above_within t (n - i) x k ≡ false
above_end t n i x k h = let none : n - i ≡ 0 = omega (arith, h) in rw none refl

-- where the node has no child, it is above itself alone
pub above_itself : (t : Nodes) → AreTrees t → (x k : ℕ) → 0 < length t → children_at t x ≡ [] → is_above t x k ≡ nat_eq x k
above_itself t a x k some none = go (length t) refl
  where
    go : (n : ℕ) → length t ≡ n → is_above_within t n x k ≡ nat_eq x k
    go zero e = absurd (omega (arith, some, e))
    go (suc n) e = above_childless t a x none n k

pub childless : (l : List NodeId) → is_none (first_of l) ≡ true → l ≡ []
childless [] h = refl
childless (c ∷ l) h = cc
