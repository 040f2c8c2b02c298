-- What holds of the nodes stays so in every call.
use Rattle.std.proofs.Common.{◌≡◌, ◌⊎◌, inl, inr, refl, sym, ap, subst, ◌∙◌, ℕ, ◌<◌, ◌≤◌, Bool, true, false, cond, ◌||◌, not, nat_eq, List, [], ◌∷◌, ◌++◌, Option, Some, None, filter, length, length-append, length-set, slice_index_or, slice_set, arith}
use Rattle.std.proofs.Math.ListN.{get_or-append}
use Rattle.std.proofs.Math.Seq.{get_or-append_seam}
use Rattle.std.proofs.lemmas.Bool.{cases_lt, cases_order, eqb-true, eqb-false, ne_eqb}
use Rattle.std.proofs.lemmas.List.{get_or-set_same, get_or-set_other, get_or_past}
use Rattle.std.specs.List.{list_all}
use Rattle.std.specs.Option.{option_to_list}
use Rattle.js_values.specs.declared.ids.NodeId.{NodeId}
use Rattle.dom_tree.specs.declared.content.Content.{Content}
use Rattle.dom_tree.specs.declared.content.Kind.{Kind}
use Rattle.dom_tree.specs.declared.links.Linked.{Linked}
use Rattle.dom_tree.specs.declared.links.Links.{Links}
use Rattle.dom_tree.specs.Links.{AreLinked, Place, Row, Shows, backward, beside, ends, forward, linked_at, links_at, no_linked, no_links, nodes_of, place_of}
use Rattle.dom_tree.specs.Node.{Node, Nodes, children_at, has, is_distinct, is_document, is_element, is_text, is_this, kind_at, may_have_children, no_node, node_at, parent_at, with_content, with_new}
use Rattle.dom_tree.specs.Sound.{AreTrees, IsSound, Rooted, elements_of, is_proper, root, under}
use Rattle.dom_tree.proofs.Chains.{frame}
use Rattle.dom_tree.proofs.Lists.{has_head, has_tail}
use Rattle.dom_tree.proofs.Shown.{shown}
use Rattle.dom_tree.proofs.Trees.{at_set, child_in}

-- tests that agree on the nodes of a list
pub all_same : (f g : NodeId → Bool) (l : List NodeId) → ((c : NodeId) → has c.0 l ≡ true → f c ≡ g c) → list_all f l ≡ list_all g l
all_same f g [] same = refl
all_same f g (c ∷ l) same = rw (same c (has_head c l), all_same f g l (λ d i. same d (has_tail d c l i))) refl

pub filter_same : (f g : NodeId → Bool) (l : List NodeId) → ((c : NodeId) → has c.0 l ≡ true → f c ≡ g c) → filter f l ≡ filter g l
filter_same f g [] same = refl
filter_same f g (c ∷ l) same = rw (same c (has_head c l), filter_same f g l (λ d i. same d (has_tail d c l i))) refl

-- the links tell the nodes, which are sound
pub linked : (ms : List Linked) (u : Nodes) (top : Option NodeId) → Shows ms u → IsSound u → elements_of u ≡ option_to_list top → (nodes_of ms ≡ u) × AreLinked ms top
linked ms u top s sound e =
    let same : nodes_of ms ≡ u = shown ms u s sound.trees in
    (same, record { shows = subst (Shows ms) (sym same) s; sound = subst IsSound (sym same) sound; element = ap elements_of same ∙ e })

pub one_at_most : (o : Option NodeId) → length (option_to_list o) ≤ 1
one_at_most None = omega arith
one_at_most (Some c) = omega arith

pub same_trees : (t u : Nodes) → ((k : ℕ) → children_at u k ≡ children_at t k) → ((k : ℕ) → parent_at u k ≡ parent_at t k) → AreTrees t → AreTrees u
same_trees t u kids up a = record {
  agree = λ p c. ap (has c) (kids p) ∙ a.agree p c ∙ ap (is_this p) (sym (up c));
  distinct = λ p. ap is_distinct (kids p) ∙ a.distinct p;
  rooted = λ k. rooted k (a.rooted k);
}
  where
    rooted : (k : ℕ) → Rooted t k → Rooted u k
    rooted k (root e) = root (up k ∙ e)
    rooted k (under {p = p} e r) = under (up k ∙ e) (rooted p.0 r)

-- where links and places stay, and contents change or are added
same_shows : (ns ms : List Linked) (t u : Nodes) → length u ≡ length ms → ((k : ℕ) → (node_at u k).content ≡ (linked_at ms k).content) → ((k : ℕ) → links_at ms k ≡ links_at ns k)
    → ((k : ℕ) → children_at u k ≡ children_at t k) → ((k : ℕ) → parent_at u k ≡ parent_at t k) → Shows ns t → Shows ms u
same_shows ns ms t u long content links kids up s = record {
  long = long;
  content = content;
  parent = λ k. up k ∙ s.parent k ∙ sym (ap (λ (l : Links). l.parent) (links k));
  rows = λ p.
      subst (Row ms p) (sym (kids p))
      (frame (λ z. forward ns (place_of p z)) (λ z. backward ns (place_of p z)) (λ z. forward ms (place_of p z)) (λ z. backward ms (place_of p z)) None (children_at t p) (s.rows p) (forth (ends p)) (back (ends p)) (λ c i. (forth (beside c), back (beside c))));
  alone = λ c e.
      let old = s.alone c (sym (up c.0) ∙ e) in
      (forth (beside c) ∙ old.0, back (beside c) ∙ old.1);
}
  where
    forth : (z : Place) → forward ms z ≡ forward ns z
    forth (ends p) = ap (λ (l : Links). l.first) (links p)
    forth (beside c) = ap (λ (l : Links). l.next) (links c.0)

    back : (z : Place) → backward ms z ≡ backward ns z
    back (ends p) = ap (λ (l : Links). l.last) (links p)
    back (beside c) = ap (λ (l : Links). l.previous) (links c.0)

-- the content of a node changes, and its kind stays what it is
pub record StaysKind (old new : Content) : Type 0 where
  pub document : is_document new.kind ≡ is_document old.kind
  pub element : is_element new.kind ≡ is_element old.kind
  pub text : is_text new.kind ≡ is_text old.kind
  pub proper : is_proper new ≡ true

module _ (t : Nodes) (k : NodeId) (new : Content) (k_in : k.0 < length t) where
  at_content : (j : ℕ) → node_at (with_content t k new) j ≡ cond (nat_eq k.0 j) (record { content = new; parent = parent_at t k.0; children = children_at t k.0 }) (node_at t j)
  at_content j = at_set t k.0 j (record { content = new; parent = parent_at t k.0; children = children_at t k.0 }) k_in

  pub content_kids : (j : ℕ) → children_at (with_content t k new) j ≡ children_at t j
  content_kids j = ap (λ (n : Node). n.children) (at_content j) ∙ go (nat_eq k.0 j) refl
    where
      go : (b : Bool) → nat_eq k.0 j ≡ b → (cond b (record { content = new; parent = parent_at t k.0; children = children_at t k.0 }) (node_at t j)).children ≡ children_at t j
      go true e = ap (children_at t) (eqb-true k.0 j e)
      go false e = refl

  pub content_up : (j : ℕ) → parent_at (with_content t k new) j ≡ parent_at t j
  content_up j = ap (λ (n : Node). n.parent) (at_content j) ∙ go (nat_eq k.0 j) refl
    where
      go : (b : Bool) → nat_eq k.0 j ≡ b → (cond b (record { content = new; parent = parent_at t k.0; children = children_at t k.0 }) (node_at t j)).parent ≡ parent_at t j
      go true e = ap (parent_at t) (eqb-true k.0 j e)
      go false e = refl

  content_at : (j : ℕ) → (node_at (with_content t k new) j).content ≡ cond (nat_eq k.0 j) new (node_at t j).content
  content_at j = ap (λ (n : Node). n.content) (at_content j) ∙ go (nat_eq k.0 j)
    where
      go : (b : Bool) → (cond b (record { content = new; parent = parent_at t k.0; children = children_at t k.0 }) (node_at t j)).content ≡ cond b new (node_at t j).content
      go true = refl
      go false = refl

  -- a test of kinds that gives the same of the new content
  kind_same : (f : Kind → Bool) → f new.kind ≡ f (kind_at t k.0) → (j : ℕ) → f (kind_at (with_content t k new) j) ≡ f (kind_at t j)
  kind_same f same j = ap (λ (c : Content). f c.kind) (content_at j) ∙ go (nat_eq k.0 j) refl
    where
      go : (b : Bool) → nat_eq k.0 j ≡ b → f (cond b new (node_at t j).content).kind ≡ f (kind_at t j)
      go true e = same ∙ ap (λ z. f (kind_at t z)) (eqb-true k.0 j e)
      go false e = refl

  content_elements : is_element new.kind ≡ is_element (kind_at t k.0) → elements_of (with_content t k new) ≡ elements_of t
  content_elements same =
      ap (filter (λ c. is_element (kind_at (with_content t k new) c.0))) (content_kids 0)
      ∙ filter_same (λ c. is_element (kind_at (with_content t k new) c.0)) (λ c. is_element (kind_at t c.0)) (children_at t 0) (λ c i. kind_same is_element same c.0)

  pub content_sound : IsSound t → StaysKind (node_at t k.0).content new → IsSound (with_content t k new)
  content_sound s w = record {
    trees = same_trees t (with_content t k new) content_kids content_up s.trees;
    proper = λ j. ap is_proper (content_at j) ∙ proper j (nat_eq k.0 j);
    leaves = λ j h.
        content_kids j
        ∙ s.leaves j
        (sym (ap (λ b. b || is_element (kind_at (with_content t k new) j)) (kind_same is_document w.document j) ∙ ap (λ b. is_document (kind_at t j) || b) (kind_same is_element w.element j)) ∙ h);
    document = λ j. kind_same is_document w.document j ∙ s.document j;
    root = content_up 0 ∙ s.root;
    no_text =
        ap (list_all (λ c. not (is_text (kind_at (with_content t k new) c.0)))) (content_kids 0)
        ∙ all_same (λ c. not (is_text (kind_at (with_content t k new) c.0))) (λ c. not (is_text (kind_at t c.0))) (children_at t 0) (λ c i. ap not (kind_same is_text w.text c.0))
        ∙ s.no_text;
    one_element = subst (λ l. length l ≤ 1) (sym (content_elements w.element)) s.one_element;
  }
    where
      proper : (j : ℕ) (b : Bool) → is_proper (cond b new (node_at t j).content) ≡ true
      proper j true = w.proper
      proper j false = s.proper j

module _ (ns : List Linked) (t : Nodes) (top : Option NodeId) (k : NodeId) (new : Content) where
  abbrev changed : Linked
  changed = record { content = new; links = links_at ns k.0 }

  abbrev after_change : List Linked
  after_change = slice_set ns k.0 changed

  at_change : k.0 < length ns → (j : ℕ) → linked_at after_change j ≡ cond (nat_eq k.0 j) changed (linked_at ns j)
  at_change k_in j = go (nat_eq k.0 j) refl
    where
      go : (b : Bool) → nat_eq k.0 j ≡ b → linked_at after_change j ≡ cond b changed (linked_at ns j)
      go true e = ap (linked_at after_change) (sym (eqb-true k.0 j e)) ∙ get_or-set_same ns k.0 changed no_linked k_in
      go false e = get_or-set_other ns k.0 j changed no_linked (λ f. eqb-false k.0 j e (sym f))

  links_change : k.0 < length ns → (j : ℕ) → links_at after_change j ≡ links_at ns j
  links_change k_in j = ap (λ (n : Linked). n.links) (at_change k_in j) ∙ go (nat_eq k.0 j) refl
    where
      go : (b : Bool) → nat_eq k.0 j ≡ b → (cond b changed (linked_at ns j)).links ≡ links_at ns j
      go true e = ap (links_at ns) (eqb-true k.0 j e)
      go false e = refl

  content_linked : Shows ns t → IsSound t → elements_of t ≡ option_to_list top → k.0 < length ns → StaysKind (node_at t k.0).content new
      → (nodes_of after_change ≡ with_content t k new) × AreLinked after_change top
  content_linked s sound e k_in w =
      let in_t : k.0 < length t = omega (arith, k_in, s.long) in
      let u : Nodes = with_content t k new in
      let long : length u ≡ length after_change =
      length-set t k.0 (record { content = new; parent = parent_at t k.0; children = children_at t k.0 }) ∙ s.long ∙ sym (length-set ns k.0 changed)
      in
      let content : (j : ℕ) → (node_at u j).content ≡ (linked_at after_change j).content =
      λ j. content_at t k new in_t j ∙ go j (nat_eq k.0 j) (s.content j) ∙ sym (ap (λ (n : Linked). n.content) (at_change k_in j))
      in
      linked after_change u top (same_shows ns after_change t u long content (links_change k_in) (content_kids t k new in_t) (content_up t k new in_t) s) (content_sound t k new in_t sound w) (content_elements t k new in_t w.element ∙ e)
    where
      go : (j : ℕ) (b : Bool) → (node_at t j).content ≡ (linked_at ns j).content → cond b new (node_at t j).content ≡ (cond b changed (linked_at ns j)).content
      go j true f = refl
      go j false f = f

-- the nodes after the content of one changes
pub with_content_linked : (ns : List Linked) (top : Option NodeId) (k : NodeId) (new : Content) → AreLinked ns top → k.0 < length ns
    → StaysKind (linked_at ns k.0).content new
    → (nodes_of (slice_set ns k.0 (record { content = new; links = links_at ns k.0 })) ≡ with_content (nodes_of ns) k new)
    × AreLinked (slice_set ns k.0 (record { content = new; links = links_at ns k.0 })) top
with_content_linked ns top k new a k_in w =
    content_linked ns (nodes_of ns) top k new a.shows a.sound a.element k_in (subst (λ c. StaysKind c new) (sym (a.shows.content k.0)) w)

-- one more at the end
at_push : {X : Type 0} (xs : List X) (x d : X) (k : ℕ) → ((k < length xs) × (slice_index_or (xs ++ x ∷ []) k d ≡ slice_index_or xs k d)) ⊎ (((k ≡ length xs) × (slice_index_or (xs ++ x ∷ []) k d ≡ x) × (slice_index_or xs k d ≡ d)) ⊎ ((length xs < k) × (slice_index_or (xs ++ x ∷ []) k d ≡ slice_index_or xs k d)))
at_push xs x d k = by (cases_order k (length xs))
  where
    by : (k ≡ length xs) ⊎ ((k < length xs) ⊎ (length xs < k)) → ((k < length xs) × (slice_index_or (xs ++ x ∷ []) k d ≡ slice_index_or xs k d)) ⊎ (((k ≡ length xs) × (slice_index_or (xs ++ x ∷ []) k d ≡ x) × (slice_index_or xs k d ≡ d)) ⊎ ((length xs < k) × (slice_index_or (xs ++ x ∷ []) k d ≡ slice_index_or xs k d)))
    by (inl here) =
        let past : length xs ≤ k = omega (arith, here) in
        inr (inl (here, ap (λ i. slice_index_or (xs ++ x ∷ []) i d) here ∙ get_or-append_seam xs x [] d, get_or_past xs k d past))
    by (inr (inl before)) = inl (before, get_or-append xs (x ∷ []) d k before)
    by (inr (inr after)) =
        let long : length (xs ++ x ∷ []) ≤ k = omega (arith, length-append xs (x ∷ []), after) in
        let past : length xs ≤ k = omega (arith, after) in
        inr (inr (after, get_or_past (xs ++ x ∷ []) k d long ∙ sym (get_or_past xs k d past)))

module _ (t : Nodes) (new : Content) where
  abbrev alone_node : Node
  alone_node = record { content = new; parent = None; children = [] }

  pub new_kids : (k : ℕ) → children_at (with_new t new) k ≡ children_at t k
  new_kids k = by (at_push t alone_node no_node k)
    where
      by : ((k < length t) × (node_at (with_new t new) k ≡ node_at t k)) ⊎ (((k ≡ length t) × (node_at (with_new t new) k ≡ alone_node) × (node_at t k ≡ no_node)) ⊎ ((length t < k) × (node_at (with_new t new) k ≡ node_at t k))) → children_at (with_new t new) k ≡ children_at t k
      by (inl (l, e)) = ap (λ (n : Node). n.children) e
      by (inr (inl (h, e, f))) = ap (λ (n : Node). n.children) e ∙ sym (ap (λ (n : Node). n.children) f)
      by (inr (inr (l, e))) = ap (λ (n : Node). n.children) e

  pub new_up : (k : ℕ) → parent_at (with_new t new) k ≡ parent_at t k
  new_up k = by (at_push t alone_node no_node k)
    where
      by : ((k < length t) × (node_at (with_new t new) k ≡ node_at t k)) ⊎ (((k ≡ length t) × (node_at (with_new t new) k ≡ alone_node) × (node_at t k ≡ no_node)) ⊎ ((length t < k) × (node_at (with_new t new) k ≡ node_at t k))) → parent_at (with_new t new) k ≡ parent_at t k
      by (inl (l, e)) = ap (λ (n : Node). n.parent) e
      by (inr (inl (h, e, f))) = ap (λ (n : Node). n.parent) e ∙ sym (ap (λ (n : Node). n.parent) f)
      by (inr (inr (l, e))) = ap (λ (n : Node). n.parent) e

  new_kind : (k : ℕ) → k < length t → kind_at (with_new t new) k ≡ kind_at t k
  new_kind k l = ap (λ (n : Node). n.content.kind) (get_or-append t (alone_node ∷ []) no_node k l)

  new_elements : AreTrees t → elements_of (with_new t new) ≡ elements_of t
  new_elements a =
      ap (filter (λ c. is_element (kind_at (with_new t new) c.0))) (new_kids 0)
      ∙ filter_same (λ c. is_element (kind_at (with_new t new) c.0)) (λ c. is_element (kind_at t c.0)) (children_at t 0) (λ c i. ap is_element (new_kind c.0 (child_in t a 0 c.0 i)))

  pub new_sound : 0 < length t → IsSound t → is_proper new ≡ true → is_document new.kind ≡ false → IsSound (with_new t new)
  new_sound some s proper not_document = record {
    trees = same_trees t (with_new t new) new_kids new_up s.trees;
    proper = λ k. good k (at_push t alone_node no_node k);
    leaves = λ k h. new_kids k ∙ leaf k h (at_push t alone_node no_node k);
    document = λ k. first k (at_push t alone_node no_node k);
    root = new_up 0 ∙ s.root;
    no_text =
        ap (list_all (λ c. not (is_text (kind_at (with_new t new) c.0)))) (new_kids 0)
        ∙ all_same (λ c. not (is_text (kind_at (with_new t new) c.0))) (λ c. not (is_text (kind_at t c.0))) (children_at t 0) (λ c i. ap (λ k. not (is_text k)) (new_kind c.0 (child_in t s.trees 0 c.0 i)))
        ∙ s.no_text;
    one_element = subst (λ l. length l ≤ 1) (sym (new_elements s.trees)) s.one_element;
  }
    where
      good : (k : ℕ) → ((k < length t) × (node_at (with_new t new) k ≡ node_at t k)) ⊎ (((k ≡ length t) × (node_at (with_new t new) k ≡ alone_node) × (node_at t k ≡ no_node)) ⊎ ((length t < k) × (node_at (with_new t new) k ≡ node_at t k))) → is_proper (node_at (with_new t new) k).content ≡ true
      good k (inl (l, e)) = ap (λ (n : Node). is_proper n.content) e ∙ s.proper k
      good k (inr (inl (h, e, f))) = ap (λ (n : Node). is_proper n.content) e ∙ proper
      good k (inr (inr (l, e))) = ap (λ (n : Node). is_proper n.content) e ∙ s.proper k

      leaf : (k : ℕ) → may_have_children (kind_at (with_new t new) k) ≡ false → ((k < length t) × (node_at (with_new t new) k ≡ node_at t k)) ⊎ (((k ≡ length t) × (node_at (with_new t new) k ≡ alone_node) × (node_at t k ≡ no_node)) ⊎ ((length t < k) × (node_at (with_new t new) k ≡ node_at t k))) → children_at t k ≡ []
      leaf k h (inl (l, e)) = s.leaves k (sym (ap (λ (n : Node). may_have_children n.content.kind) e) ∙ h)
      leaf k h (inr (inl (g, e, f))) = ap (λ (n : Node). n.children) f
      leaf k h (inr (inr (l, e))) = s.leaves k (sym (ap (λ (n : Node). may_have_children n.content.kind) e) ∙ h)

      first : (k : ℕ) → ((k < length t) × (node_at (with_new t new) k ≡ node_at t k)) ⊎ (((k ≡ length t) × (node_at (with_new t new) k ≡ alone_node) × (node_at t k ≡ no_node)) ⊎ ((length t < k) × (node_at (with_new t new) k ≡ node_at t k))) → is_document (kind_at (with_new t new) k) ≡ nat_eq k 0
      first k (inl (l, e)) = ap (λ (n : Node). is_document n.content.kind) e ∙ s.document k
      first k (inr (inl (h, e, f))) =
          let far : k ≡ 0 → ⊥ = λ g. omega (arith, h, some, g) in
          ap (λ (n : Node). is_document n.content.kind) e ∙ not_document ∙ sym (ne_eqb k 0 far)
      first k (inr (inr (l, e))) = ap (λ (n : Node). is_document n.content.kind) e ∙ s.document k

-- a document with no node would have a first one that is none
pub has_first : (t : Nodes) → IsSound t → 0 < length t
has_first t sound = by (cases_lt 0 (length t))
  where
    by : (0 < length t) ⊎ (length t ≤ 0) → 0 < length t
    by (inl h) = h
    by (inr h) = let bad : false ≡ true = sym (ap (λ (n : Node). is_document n.content.kind) (get_or_past t 0 no_node h)) ∙ sound.document 0 in cc

module _ (ns : List Linked) (t : Nodes) (top : Option NodeId) (new : Content) where
  abbrev made : Linked
  made = record { content = new; links = no_links }

  abbrev after_new : List Linked
  after_new = ns ++ made ∷ []

  links_new : (k : ℕ) → links_at after_new k ≡ links_at ns k
  links_new k = by (at_push ns made no_linked k)
    where
      by : ((k < length ns) × (linked_at after_new k ≡ linked_at ns k)) ⊎ (((k ≡ length ns) × (linked_at after_new k ≡ made) × (linked_at ns k ≡ no_linked)) ⊎ ((length ns < k) × (linked_at after_new k ≡ linked_at ns k))) → links_at after_new k ≡ links_at ns k
      by (inl (l, e)) = ap (λ (n : Linked). n.links) e
      by (inr (inl (h, e, f))) = ap (λ (n : Linked). n.links) e ∙ sym (ap (λ (n : Linked). n.links) f)
      by (inr (inr (l, e))) = ap (λ (n : Linked). n.links) e

  content_new : length t ≡ length ns → ((k : ℕ) → (node_at t k).content ≡ (linked_at ns k).content) → (k : ℕ) → (node_at (with_new t new) k).content ≡ (linked_at after_new k).content
  content_new long same k = by (at_push ns made no_linked k) (at_push t (alone_node t new) no_node k)
    where
      by : ((k < length ns) × (linked_at after_new k ≡ linked_at ns k)) ⊎ (((k ≡ length ns) × (linked_at after_new k ≡ made) × (linked_at ns k ≡ no_linked)) ⊎ ((length ns < k) × (linked_at after_new k ≡ linked_at ns k)))
          → ((k < length t) × (node_at (with_new t new) k ≡ node_at t k)) ⊎ (((k ≡ length t) × (node_at (with_new t new) k ≡ alone_node t new) × (node_at t k ≡ no_node)) ⊎ ((length t < k) × (node_at (with_new t new) k ≡ node_at t k))) → (node_at (with_new t new) k).content ≡ (linked_at after_new k).content
      by (inl (l, e)) (inl (m, f)) = ap (λ (n : Node). n.content) f ∙ same k ∙ sym (ap (λ (n : Linked). n.content) e)
      by (inl (l, e)) (inr (inl (m, f, g))) = absurd (omega (arith, l, m, long))
      by (inl (l, e)) (inr (inr (m, f))) = absurd (omega (arith, l, m, long))
      by (inr (inl (l, e, d))) (inr (inl (m, f, g))) = ap (λ (n : Node). n.content) f ∙ sym (ap (λ (n : Linked). n.content) e)
      by (inr (inl (l, e, d))) (inl (m, f)) = absurd (omega (arith, l, m, long))
      by (inr (inl (l, e, d))) (inr (inr (m, f))) = absurd (omega (arith, l, m, long))
      by (inr (inr (l, e))) (inr (inr (m, f))) = ap (λ (n : Node). n.content) f ∙ same k ∙ sym (ap (λ (n : Linked). n.content) e)
      by (inr (inr (l, e))) (inl (m, f)) = absurd (omega (arith, l, m, long))
      by (inr (inr (l, e))) (inr (inl (m, f, g))) = absurd (omega (arith, l, m, long))

  new_linked : Shows ns t → IsSound t → elements_of t ≡ option_to_list top → is_proper new ≡ true → is_document new.kind ≡ false
      → (nodes_of after_new ≡ with_new t new) × AreLinked after_new top
  new_linked s sound e proper not_document =
      let long : length (with_new t new) ≡ length after_new = omega (arith, length-append t (alone_node t new ∷ []), length-append ns (made ∷ []), s.long) in
      linked after_new (with_new t new) top (same_shows ns after_new t (with_new t new) long (content_new s.long s.content) links_new (new_kids t new) (new_up t new) s)
      (new_sound t new (has_first t sound) sound proper not_document) (new_elements t new sound.trees ∙ e)

-- the nodes after one is made
pub with_new_linked : (ns : List Linked) (top : Option NodeId) (new : Content) → AreLinked ns top → is_proper new ≡ true → is_document new.kind ≡ false
    → (nodes_of (ns ++ record { content = new; links = no_links } ∷ []) ≡ with_new (nodes_of ns) new) × AreLinked (ns ++ record { content = new; links = no_links } ∷ []) top
with_new_linked ns top new a = new_linked ns (nodes_of ns) top new a.shows a.sound a.element
