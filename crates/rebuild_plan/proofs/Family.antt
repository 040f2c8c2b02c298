-- The children of the document and of the things are nodes among the things, each once: there are no more of them than of those nodes.
use Rattle.std.proofs.Common.{◌≡◌, ◌⊎◌, inl, inr, refl, sym, ap, ◌∙◌, arith, ℕ, zero, suc, ◌<◌, ◌≤◌, Bool, true, false, ◌&&◌, ◌||◌, not, nat_eq, nat_lt, List, [], ◌∷◌, ◌++◌, None, Some, get_or, length}
use Rattle.std.proofs.lemmas.Bool.{and_from, and_parts, cases_lt, eq-eqb, eqb-true, ltb-true, not-true, or_cases, or_left, or_right}
use Rattle.std.proofs.lemmas.Cmp.{nat_eq_equiv}
use Rattle.std.proofs.lemmas.List.Kept.{AllPairs-from_increasing}
use Rattle.std.proofs.lemmas.Map.Keys.{IsDistinct-cons, IsDistinct-from_apart, IsDistinct-head, IsDistinct-tail}
use Rattle.std.proofs.lemmas.Map.Made.{length-le_from_is_member}
use Rattle.std.specs.List.{AllByRecursion, IsDistinct}
use Rattle.dom_tree.proofs.Callers.{child_in, parent_of_child}
use Rattle.dom_tree.specs.Node.{Nodes, children_at, has, is_distinct, is_document, kind_at, parent_at}
use Rattle.dom_tree.specs.Sound.{IsSound}
use Rattle.js_values.specs.declared.ids.NodeId.{NodeId}
use Rattle.js_values.specs.declared.ids.ObjId.{ObjId}
use Rattle.object_heap.specs.Chain.{object_at}
use Rattle.object_heap.specs.Object.{Object}
use Rattle.object_heap.specs.declared.object.Class.{Class}
use Rattle.object_heap.specs.declared.object.Class.TheVariants as class
use Rattle.page_host.specs.Host.{object_of_node}
use Rattle.page_meaning.specs.Classes.{class_at, is_made}
use Rattle.page_meaning.specs.Places.{built_in_count, document}
use Rattle.page_meaning.specs.Pristine.{built_ins}
use Rattle.page_meaning.specs.Store.{Store}
use Rattle.heap_walker.specs.Still.{Still}
use Rattle.heap_walker.specs.Things.{IsWalk, calls_links, heard_at, host_links, is_in, links, nodes_links, parent_links}
use Rattle.heap_walker.proofs.Callers.{among_left, among_right, document_among, host_among, links_in_walk, roots_in_walk, thing_of}
use Rattle.rebuild_plan.specs.Moved.{first_thing}

-- ---- lists of places and of nodes

below_differs : (i j : ℕ) → i < j → nat_eq i j ≡ false
below_differs i j h = by (nat_eq i j) refl
  where
    by : (b : Bool) → nat_eq i j ≡ b → b ≡ false
    by true e = absurd (omega (arith, h, eqb-true i j e))
    by false e = refl

has_append : (c : ℕ) (xs ys : List NodeId) → has c (xs ++ ys) ≡ true → (has c xs ≡ true) ⊎ (has c ys ≡ true)
has_append c [] ys h = inr h
has_append c (x ∷ xs) ys h = by (nat_eq c x.0) refl (λ g. has_append c xs ys g)
  where
    by : (b : Bool) → nat_eq c x.0 ≡ b → (has c (xs ++ ys) ≡ true → (has c xs ≡ true) ⊎ (has c ys ≡ true)) → (has c (x ∷ xs) ≡ true) ⊎ (has c ys ≡ true)
    by true e later = inl (or_left (nat_eq c x.0) (has c xs) e)
    by false e later = from (later (rw e at h))
      where
        from : (has c xs ≡ true) ⊎ (has c ys ≡ true) → (has c (x ∷ xs) ≡ true) ⊎ (has c ys ≡ true)
        from (inl g) = inl (or_right (nat_eq c x.0) (has c xs) g)
        from (inr g) = inr g

head_has : (c : NodeId) (xs : List NodeId) → has c.0 (c ∷ xs) ≡ true
head_has c xs = or_left (nat_eq c.0 c.0) (has c.0 xs) (eq-eqb c.0 c.0 refl)

tail_has : (k : ℕ) (c : NodeId) (xs : List NodeId) → has k xs ≡ true → has k (c ∷ xs) ≡ true
tail_has k c xs h = or_right (nat_eq k c.0) (has k xs) h

has_behind : (k : ℕ) (xs ys : List NodeId) → has k ys ≡ true → has k (xs ++ ys) ≡ true
has_behind k [] ys h = h
has_behind k (x ∷ xs) ys h = tail_has k x (xs ++ ys) (has_behind k xs ys h)

distinct_join : (xs ys : List NodeId) → is_distinct xs ≡ true → is_distinct ys ≡ true → ((c : ℕ) → has c xs ≡ true → has c ys ≡ true → ⊥) → is_distinct (xs ++ ys) ≡ true
distinct_join [] ys d e apart = e
distinct_join (c ∷ xs) ys d e apart =
    let split = and_parts (not (has c.0 xs)) (is_distinct xs) d in
    and_from (not (has c.0 (xs ++ ys))) (is_distinct (xs ++ ys)) (fresh (has c.0 (xs ++ ys)) refl (not-true (has c.0 xs) split.0))
    (distinct_join xs ys split.1 e (λ k h g. apart k (tail_has k c xs h) g))
  where
    fresh : (b : Bool) → has c.0 (xs ++ ys) ≡ b → has c.0 xs ≡ false → not b ≡ true
    fresh false e none = refl
    fresh true e none = absurd (by (has_append c.0 xs ys e))
      where
        by : (has c.0 xs ≡ true) ⊎ (has c.0 ys ≡ true) → ⊥
        by (inl h) = cc (sym none ∙ h)
        by (inr h) = apart c.0 (head_has c xs) h

abbrev ids : List NodeId → List ℕ
ids [] = []
ids (c ∷ l) = c.0 ∷ ids l

ids_long : (l : List NodeId) → length (ids l) ≡ length l
ids_long [] = refl
ids_long (c ∷ l) = ap suc (ids_long l)

in_ids : (k : ℕ) (l : List NodeId) → is_in k (ids l) ≡ has k l
in_ids k [] = refl
in_ids k (c ∷ l) = ap (λ b. nat_eq k c.0 || b) (in_ids k l)

ids_apart : (k : ℕ) (l : List NodeId) → has k l ≡ false → AllByRecursion (λ j. nat_eq k j ≡ false) (ids l)
ids_apart k [] h = tt
ids_apart k (c ∷ l) h = by (nat_eq k c.0) refl (λ g. ids_apart k l g)
  where
    by : (b : Bool) → nat_eq k c.0 ≡ b → (has k l ≡ false → AllByRecursion (λ j. nat_eq k j ≡ false) (ids l)) → AllByRecursion (λ j. nat_eq k j ≡ false) (ids (c ∷ l))
    by true e later = cc (rw e at h)
    by false e later = (e, later (rw e at h))

ids_distinct : (l : List NodeId) → is_distinct l ≡ true → IsDistinct nat_eq (ids l)
unfolding IsDistinct
ids_distinct [] d = tt
ids_distinct (c ∷ l) d =
    let split = and_parts (not (has c.0 l)) (is_distinct l) d in
    (ids_apart c.0 l (not-true (has c.0 l) split.0), ids_distinct l split.1)

-- distinct nodes, all of them among others, are no more than those
few : (xs ys : List NodeId) → is_distinct xs ≡ true → ((c : ℕ) → has c xs ≡ true → has c ys ≡ true) → length xs ≤ length ys
few xs ys d within =
    let count : length (ids xs) ≤ length (ids ys) = length-le_from_is_member nat_eq_equiv (ids xs) (ids ys) (ids_distinct xs d)
    (λ c h. in_ids c ys ∙ within c (sym (in_ids c xs) ∙ h))
    in
    omega (arith, count, ids_long xs, ids_long ys)

-- ---- the nodes of objects, and their children

abbrev pub kids_as : Nodes → Class → List NodeId
kids_as t (class.Node k) = children_at t k.0
kids_as t c = []

abbrev pub nodes_as : Class → List NodeId
nodes_as (class.Node k) = k ∷ []
nodes_as c = []

abbrev pub kids : Store → ℕ → List NodeId
kids s k = kids_as s.host.nodes (object_at s.heap.objects k).class

abbrev pub all_kids : Store → List ℕ → List NodeId
all_kids s [] = []
all_kids s (k ∷ ks) = kids s k ++ all_kids s ks

abbrev pub all_nodes : Store → List ℕ → List NodeId
all_nodes s [] = []
all_nodes s (k ∷ ks) = nodes_as (object_at s.heap.objects k).class ++ all_nodes s ks

-- the node is a child of that of this object
record IsKid (s : Store) (k c : ℕ) : Type 0 where
  node : NodeId
  class : (object_at s.heap.objects k).class ≡ class.Node node
  child : has c (children_at s.host.nodes node.0) ≡ true

kid_is : (s : Store) (k c : ℕ) → has c (kids s k) ≡ true → IsKid s k c
kid_is s k c h = by (object_at s.heap.objects k).class refl h
  where
    by : (b : Class) → (object_at s.heap.objects k).class ≡ b → has c (kids_as s.host.nodes b) ≡ true → IsKid s k c
    by (class.Node p) e g = record { node = p; class = e; child = g }
    by b e g = cc g

record IsAmong (s : Store) (ks : List ℕ) (c : ℕ) : Type 0 where
  object : ℕ
  there : is_in object ks ≡ true
  kid : IsKid s object c

kid_among : (s : Store) (ks : List ℕ) (c : ℕ) → has c (all_kids s ks) ≡ true → IsAmong s ks c
kid_among s [] c h = cc h
kid_among s (k ∷ ks) c h = by (has_append c (kids s k) (all_kids s ks) h) (λ g. kid_among s ks c g)
  where
    more : IsAmong s ks c → IsAmong s (k ∷ ks) c
    more a = record { object = a.object; there = or_right (nat_eq a.object k) (is_in a.object ks) a.there; kid = a.kid }

    by : (has c (kids s k) ≡ true) ⊎ (has c (all_kids s ks) ≡ true) → (has c (all_kids s ks) ≡ true → IsAmong s ks c) → IsAmong s (k ∷ ks) c
    by (inl g) later = record { object = k; there = or_left (nat_eq k k) (is_in k ks) (eq-eqb k k refl); kid = kid_is s k c g }
    by (inr g) later = more (later g)

-- the node of an object among these is among their nodes
node_among : (s : Store) (ks : List ℕ) (j : ℕ) (c : NodeId) → is_in j ks ≡ true → (object_at s.heap.objects j).class ≡ class.Node c → has c.0 (all_nodes s ks) ≡ true
node_among s [] j c h is = cc h
node_among s (k ∷ ks) j c h is = by (or_cases (nat_eq j k) (is_in j ks) h) (λ g. node_among s ks j c g is)
  where
    here : (object_at s.heap.objects k).class ≡ class.Node c → has c.0 (nodes_as (object_at s.heap.objects k).class ++ all_nodes s ks) ≡ true
    here e = rw e (head_has c (all_nodes s ks))

    by : (nat_eq j k ≡ true) ⊎ (is_in j ks ≡ true) → (is_in j ks ≡ true → has c.0 (all_nodes s ks) ≡ true) → has c.0 (all_nodes s (k ∷ ks)) ≡ true
    by (inl same) later = here (ap (λ n. (object_at s.heap.objects n).class) (sym (eqb-true j k same)) ∙ is)
    by (inr more) later = has_behind c.0 (nodes_as (object_at s.heap.objects k).class) (all_nodes s ks) (later more)

-- ---- no built-in object is a node's

abbrev are_made : List Object → Bool
are_made [] = true
are_made (o ∷ os) = is_made o.class && are_made os

all_made : are_made built_ins ≡ true
all_made = refl

made_at : (os : List Object) (k : ℕ) → are_made os ≡ true → is_made (object_at os k).class ≡ true
made_at [] k h = refl
made_at (o ∷ os) zero h = (and_parts (is_made o.class) (are_made os) h).0
made_at (o ∷ os) (suc k) h = made_at os k (and_parts (is_made o.class) (are_made os) h).1

made_is_no_node : (b : Class) (c : NodeId) → is_made b ≡ true → b ≡ class.Node c → ⊥
made_is_no_node b c h e = cc (sym h ∙ ap is_made e)

-- ---- nodes, and the objects of nodes

some_node : (l : Nodes) → is_document (kind_at l 0) ≡ true → 0 < length l
some_node [] h = absurd (cc h)
some_node (n ∷ l) h = omega arith

no_parent : (p : NodeId) → None ≡ Some p → ⊥
no_parent p e = cc e

same_parent : (p q : NodeId) → Some p ≡ Some q → p.0 ≡ q.0
same_parent p q e = cc e

same_node : (c d : NodeId) → class.Node c ≡ class.Node d → c.0 ≡ d.0
same_node c d e = cc e

pub node_linked : (objects : List ObjId) (c : NodeId) (l : List NodeId) → has c.0 l ≡ true → is_in (object_of_node objects c).0 (nodes_links objects l) ≡ true
node_linked objects c [] h = cc h
node_linked objects c (d ∷ l) h = by (or_cases (nat_eq c.0 d.0) (has c.0 l) h) (λ g. node_linked objects c l g)
  where
    at : ℕ
    at = (object_of_node objects c).0

    same : c.0 ≡ d.0 → at ≡ (object_of_node objects d).0
    same e = ap (λ n. (object_of_node objects (record { 0 = n })).0) e

    by : (nat_eq c.0 d.0 ≡ true) ⊎ (has c.0 l ≡ true) → (has c.0 l ≡ true → is_in at (nodes_links objects l) ≡ true) → is_in at (nodes_links objects (d ∷ l)) ≡ true
    by (inl e) later = or_left (nat_eq at (object_of_node objects d).0) (is_in at (nodes_links objects l)) (eq-eqb at (object_of_node objects d).0 (same (eqb-true c.0 d.0 e)))
    by (inr g) later = or_right (nat_eq at (object_of_node objects d).0) (is_in at (nodes_links objects l)) (later g)

-- a place that differs from each of these is none of them
none_same : (k : ℕ) (js : List ℕ) → AllByRecursion (λ j. nat_eq k j ≡ false) js → (i : ℕ) → is_in i js ≡ true → k ≡ i → ⊥
none_same k [] all i there e = cc there
none_same k (j ∷ js) all i there e = by (or_cases (nat_eq i j) (is_in i js) there) (λ g. none_same k js all.1 i g e)
  where
    by : (nat_eq i j ≡ true) ⊎ (is_in i js ≡ true) → (is_in i js ≡ true → ⊥) → ⊥
    by (inl g) later = cc (sym all.0 ∙ eq-eqb k j (e ∙ eqb-true i j g))
    by (inr g) later = later g

-- ---- of a page at rest

module _ (s : Store) (still : Still s) where
  pub document_inside : 0 < length s.host.nodes
  document_inside = some_node s.host.nodes (still.shaped.host.sound.nodes.document 0)

  pub document_class : class_at s document ≡ class.Node (record { 0 = 0 })
  document_class = ap (class_at s) (sym still.shaped.host.document) ∙ still.shaped.host.object_of 0 document_inside

  built_in_made : (j : ℕ) → j < built_in_count → is_made (object_at s.heap.objects j).class ≡ true
  built_in_made zero low = ap is_made still.shaped.window.class
  built_in_made (suc i) low = ap (λ (o : Object). is_made o.class) (still.shaped.built_ins (suc i) (omega arith) low) ∙ made_at built_ins (suc i) all_made

  -- no object that is built in is a node's
  pub built_in_is_no_node : (j : ℕ) (c : NodeId) → j < built_in_count → (object_at s.heap.objects j).class ≡ class.Node c → ⊥
  built_in_is_no_node j c low is = made_is_no_node (object_at s.heap.objects j).class c (built_in_made j low) is

module _ (s : Store) (things : List ℕ) (still : Still s) (walk : IsWalk s things) where
  abbrev t : Nodes
  t = s.host.nodes

  nodes_sound : IsSound t
  nodes_sound = still.shaped.host.sound.nodes

  -- nor is the document a child
  low_is_no_kid : (j p : ℕ) (c : NodeId) → j < first_thing → (object_at s.heap.objects j).class ≡ class.Node c → has c.0 (children_at t p) ≡ true → ⊥
  low_is_no_kid j p c low is child = by (cases_lt j built_in_count)
    where
      first : c.0 ≡ 0 → ⊥
      first e = no_parent (record { 0 = p }) (sym nodes_sound.root ∙ ap (parent_at t) (sym e) ∙ parent_of_child t nodes_sound.trees p c.0 child)

      by : (j < built_in_count) ⊎ (built_in_count ≤ j) → ⊥
      by (inl h) = built_in_is_no_node s still j c h is
      by (inr h) =
          let last : j ≡ document.0 = omega (arith, h, low) in
          first (same_node c (record { 0 = 0 }) (sym is ∙ ap (λ n. (object_at s.heap.objects n).class) last ∙ document_class s still))

  -- it is that of a thing
  kid_is_node : (k c : ℕ) → (k ≡ document.0) ⊎ (is_in k things ≡ true) → IsKid s k c → has c (all_nodes s things) ≡ true
  kid_is_node k c known kid = by (place known)
    where
      node : NodeId
      node = record { 0 = c }

      at : ObjId
      at = object_of_node s.host.objects node

      at_class : (object_at s.heap.objects at.0).class ≡ class.Node node
      at_class = still.shaped.host.object_of c (child_in t nodes_sound.trees kid.node.0 c kid.child)

      linked : is_in at.0 (links s k) ≡ true
      linked =
          let up = parent_links s.host.objects (parent_at t kid.node.0) in
          let down = nodes_links s.host.objects (children_at t kid.node.0) in
          let calls = calls_links (heard_at kid.node.0 s.host.listeners) in
          let here : is_in at.0 (host_links s.host (class.Node kid.node)) ≡ true = among_right at.0 up (down ++ calls) (among_left at.0 down calls (node_linked s.host.objects node (children_at t kid.node.0) kid.child)) in
          host_among s k at.0 (ap (λ b. is_in at.0 (host_links s.host b)) kid.class ∙ here)

      place : (k ≡ document.0) ⊎ (is_in k things ≡ true) → (at.0 < first_thing) ⊎ (is_in at.0 things ≡ true)
      place (inl e) = roots_in_walk s things still walk at.0 (document_among s at.0 (ap (λ n. is_in at.0 (links s n)) (sym e) ∙ linked))
      place (inr h) = links_in_walk s things still walk k h at.0 linked

      by : (at.0 < first_thing) ⊎ (is_in at.0 things ≡ true) → has c (all_nodes s things) ≡ true
      by (inl low) = absurd (low_is_no_kid at.0 kid.node.0 node low at_class kid.child)
      by (inr thing) = node_among s things at.0 node thing at_class

  -- and of one object alone
  one_parent : (j k c : ℕ) → IsKid s j c → IsKid s k c → j ≡ k
  one_parent j k c a b =
      let one = parent_of_child t nodes_sound.trees a.node.0 c a.child in
      let other = parent_of_child t nodes_sound.trees b.node.0 c b.child in
      let same : a.node.0 ≡ b.node.0 = same_parent (record { 0 = a.node.0 }) (record { 0 = b.node.0 }) (sym one ∙ other) in
      let left : object_of_node s.host.objects a.node ≡ record { 0 = j } = (still.shaped.host.node_of j a.node.0 a.class).1 in
      let right : object_of_node s.host.objects b.node ≡ record { 0 = k } = (still.shaped.host.node_of k b.node.0 b.class).1 in
      let both : object_of_node s.host.objects a.node ≡ object_of_node s.host.objects b.node = ap (λ n. object_of_node s.host.objects (record { 0 = n })) same in
      ap (λ (at : ObjId). at.0) (sym left ∙ both ∙ right)

  kids_distinct : (k : ℕ) → is_distinct (kids s k) ≡ true
  kids_distinct k = by (object_at s.heap.objects k).class
    where
      by : (b : Class) → is_distinct (kids_as t b) ≡ true
      by (class.Node p) = nodes_sound.trees.distinct p.0
      by b = refl

  all_distinct : (ks : List ℕ) → IsDistinct nat_eq ks → is_distinct (all_kids s ks) ≡ true
  all_distinct [] d = refl
  all_distinct (k ∷ ks) d =
      distinct_join (kids s k) (all_kids s ks) (kids_distinct k) (all_distinct ks (IsDistinct-tail nat_eq k ks d)) (λ c h g. apart c h (kid_among s ks c g))
    where
      apart : (c : ℕ) → has c (kids s k) ≡ true → IsAmong s ks c → ⊥
      apart c h a =
          none_same k ks (IsDistinct-head nat_eq k ks d) a.object a.there (one_parent k a.object c (kid_is s k c h) a.kid)

  -- the children of the document and of the things
  pub kids_few : length (all_kids s (document.0 ∷ things)) ≤ length (all_nodes s things)
  kids_few = few (all_kids s (document.0 ∷ things)) (all_nodes s things) (all_distinct (document.0 ∷ things) different) (λ c h. within c (kid_among s (document.0 ∷ things) c h))
    where
      known : (k : ℕ) → is_in k (document.0 ∷ things) ≡ true → (k ≡ document.0) ⊎ (is_in k things ≡ true)
      known k h = by (or_cases (nat_eq k document.0) (is_in k things) h)
        where
          by : (nat_eq k document.0 ≡ true) ⊎ (is_in k things ≡ true) → (k ≡ document.0) ⊎ (is_in k things ≡ true)
          by (inl e) = inl (eqb-true k document.0 e)
          by (inr g) = inr g

      within : (c : ℕ) → IsAmong s (document.0 ∷ things) c → has c (all_nodes s things) ≡ true
      within c a = kid_is_node a.object c (known a.object a.there) a.kid

      younger : (ks : List ℕ) → ((k : ℕ) → is_in k ks ≡ true → is_in k things ≡ true) → AllByRecursion (λ k. nat_eq document.0 k ≡ false) ks
      younger [] each = tt
      younger (k ∷ ks) each =
          (below_differs document.0 k (young k (each k (or_left (nat_eq k k) (is_in k ks) (eq-eqb k k refl)))), younger ks (λ j h. each j (or_right (nat_eq j k) (is_in j ks) h)))
        where
          young : (j : ℕ) → is_in j things ≡ true → document.0 < j
          young j h = ltb-true built_in_count j (and_parts (nat_lt built_in_count j) (nat_lt j (length s.heap.objects)) (thing_of s j (walk.sound j h))).0

      things_differ : IsDistinct nat_eq things
      things_differ = IsDistinct-from_apart nat_eq things (λ i j d a b. below_differs (get_or things i d) (get_or things j d) (AllPairs-from_increasing things walk.rising i j d a b))

      different : IsDistinct nat_eq (document.0 ∷ things)
      different = IsDistinct-cons nat_eq document.0 things (younger things (λ k h. h)) things_differ
