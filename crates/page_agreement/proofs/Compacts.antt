-- Two pages at rest whose compact pages are equal agree.
use Rattle.std.proofs.Common.{◌≡◌, ◌⊎◌, inl, inr, refl, sym, ap, subst, ◌∙◌, ℕ, zero, suc, ◌<◌, ◌≤◌, true, false, List, [], ◌∷◌, ◌++◌, Option, Some, length, arith}
use Rattle.std.proofs.lemmas.Bool.{cases_lt, eq-eqb, ne_eqb}
use Rattle.agreement.proofs.Callers.{built_in_itself}
use Rattle.agreement.specs.Acts.{HasBuiltIns}
use Rattle.dom_tree.proofs.Callers.{child_in, parent_in}
use Rattle.dom_tree.specs.Node.{children_at, is_document, kind_at, node_at, parent_at}
use Rattle.heap_relations.specs.Naming.{In, Named, Pair, World, here, named, pair, there}
use Rattle.heap_relations.specs.Related.{ClassRel, Each, Entries, Links, ObjectRel, PropRel, ValueRel, array, bound, event, fault, math, native, node, page, plain, window}
use Rattle.heap_walker.proofs.Callers.{among_left, among_right, host_among, made_among, props_among, thing_of as thing_reached}
use Rattle.heap_walker.specs.Still.{Still}
use Rattle.heap_walker.specs.Things.{calls_links, class_links, globals_of, heard_at, host_links, is_in, links, needs_of, node_links, nodes_links, parent_links}
use Rattle.host_relations.specs.Nodes.{NodeIds, NodeRel}
use Rattle.js_core.specs.Tree.{Code}
use Rattle.js_values.specs.declared.ids.EnvId.{EnvId}
use Rattle.js_values.specs.declared.ids.NodeId.{NodeId}
use Rattle.object_heap.specs.Chain.{object_at}
use Rattle.object_heap.specs.Object.{Object}
use Rattle.object_heap.specs.declared.object.Class.{Class}
use Rattle.object_heap.specs.declared.object.Class.TheVariants as class
use Rattle.object_heap.specs.declared.object.EventParts.{EventParts}
use Rattle.object_shapes.specs.Links.{is_thing, proto_links}
use Rattle.object_shapes.specs.Shapes.{built_in_at}
use Rattle.page_host.specs.Host.{object_of_node}
use Rattle.page_meaning.specs.Places.{built_in_count, document, node_prototype}
use Rattle.page_meaning.specs.Store.{Store}
use Rattle.rebuild_plan.proofs.Callers.{document_class}
use Rattle.rebuild_plan.specs.Compact.{compact, maker_as, place_of, thing_of, things_at}
use Rattle.rebuild_plan.specs.Moved.{first_thing}
use Rattle.rebuild_plan.specs.Nodes.{node_as, node_of}
use Rattle.rebuilding.proofs.Callers.{AreKnown, IsKnown, IsNodeToo, IsResting, as_made, built_in_alike, head_in, heads_same, needs_rel, node_low, props_rel, shape_proto, shaped_sent, tails_same, windows_alike}
use Rattle.page_agreement.proofs.Built.{begun_is_no_function, node_is_past}
use Rattle.page_agreement.proofs.Classes.{AreAlike, alike, built_proto, class_tag, kinds_same, maker_tag, needs_told, tag_told}
use Rattle.page_agreement.proofs.Hosts.{name_back, name_up, node_back, nodes_apart}
use Rattle.page_agreement.proofs.Known.{all_young, document_links, global_links, same_place, thing_links, timer_links}
use Rattle.page_agreement.proofs.Mapped.{entries_map, event_up, ids_up, maybe_map, prop_up, value_up, values_up}
use Rattle.page_agreement.proofs.Moved.{listeners_rel, nodes_rel, timers_rel}
use Rattle.page_agreement.proofs.Pairs.{first_in, first_of, firsts_are, second_in, second_of, seconds_are, young}
use Rattle.page_agreement.proofs.Parents.{HasLeft, HasRight, parents_rel}
use Rattle.page_agreement.proofs.World.{pair_world}
use Rattle.page_agreement.specs.Agree.{Agree, AreReached, Corresponds, ListenersCorrespond, NodesCorrespond, built_in, firsts, links_by, pairs, seconds, thing}
use Rattle.page_agreement.specs.Laws.{EqualCompactsAgree}

abbrev nth_node : ℕ → NodeId
nth_node n = record { 0 = n }

-- ---- lists of things

module _ (s t : Store) (ks js : List ℕ) where
  count_same : (xs ys : List ℕ) → things_at s ks xs ≡ things_at t js ys → length ys ≡ length xs
  count_same [] [] e = refl
  count_same [] (y ∷ ys) e = absurd (cc e)
  count_same (x ∷ xs) [] e = absurd (cc e)
  count_same (x ∷ xs) (y ∷ ys) e = ap suc (count_same xs ys (tails_same e))

  thing_same : (xs ys : List ℕ) (a b : ℕ) → In (pair a b) (pairs xs ys) → things_at s ks xs ≡ things_at t js ys
      → thing_of s ks (object_at s.heap.objects a) ≡ thing_of t js (object_at t.heap.objects b)
  thing_same [] ys a b i e = elim i [ ]
  thing_same (x ∷ xs) [] a b i e = elim i [ ]
  thing_same (x ∷ xs) (y ∷ ys) a b here e = heads_same e
  thing_same (x ∷ xs) (y ∷ ys) a b (there i) e = thing_same xs ys a b i (tails_same e)

-- ---- classes that are related

node_on_right : (L : Links) (c d : Class) → ClassRel L c d → (p : NodeId) → c ≡ class.Node p → IsNodeToo d
node_on_right L _ _ (node {n = q} h) p e = record { node = q; is = refl }
node_on_right L _ _ plain p e = absurd (cc e)
node_on_right L _ _ array p e = absurd (cc e)
node_on_right L _ _ (page h) p e = absurd (cc e)
node_on_right L _ _ native p e = absurd (cc e)
node_on_right L _ _ (bound h v vs) p e = absurd (cc e)
node_on_right L _ _ fault p e = absurd (cc e)
node_on_right L _ _ math p e = absurd (cc e)
node_on_right L _ _ window p e = absurd (cc e)
node_on_right L _ _ (event h) p e = absurd (cc e)

node_on_left : (L : Links) (c d : Class) → ClassRel L c d → (q : NodeId) → d ≡ class.Node q → IsNodeToo c
node_on_left L _ _ (node {m = p} h) q e = record { node = p; is = refl }
node_on_left L _ _ plain q e = absurd (cc e)
node_on_left L _ _ array q e = absurd (cc e)
node_on_left L _ _ (page h) q e = absurd (cc e)
node_on_left L _ _ native q e = absurd (cc e)
node_on_left L _ _ (bound h v vs) q e = absurd (cc e)
node_on_left L _ _ fault q e = absurd (cc e)
node_on_left L _ _ math q e = absurd (cc e)
node_on_left L _ _ window q e = absurd (cc e)
node_on_left L _ _ (event h) q e = absurd (cc e)

both_nodes : (L : Links) (c d : Class) (p q : NodeId) → c ≡ class.Node p → d ≡ class.Node q → L.node p.0 q.0 → ClassRel L c d
both_nodes L c d p q one two linked = subst (λ x. ClassRel L x d) (sym one) (subst (λ x. ClassRel L (class.Node p) x) (sym two) (node linked))

-- ---- one page at rest

-- what is made is no document
made_is_no_document : (s : Store) → Still s → (a : ℕ) → first_thing ≤ a → (k : NodeId) → (object_at s.heap.objects a).class ≡ class.Node k
    → is_document (kind_at s.host.nodes k.0) ≡ false
made_is_no_document s still a past k is = still.shaped.host.sound.nodes.document k.0 ∙ ne_eqb k.0 0 other
  where
    other : k.0 ≡ 0 → ⊥
    other e =
        let own : a ≡ (object_of_node s.host.objects k).0 = ap (λ at. at.0) (sym (still.shaped.host.node_of a k.0 is).1) in
        let first : (object_of_node s.host.objects k).0 ≡ (object_of_node s.host.objects (nth_node 0)).0 =
        ap (λ n. (object_of_node s.host.objects (nth_node n)).0) e
        in
        let last : (object_of_node s.host.objects (nth_node 0)).0 ≡ document.0 = ap (λ at. at.0) still.shaped.host.document in
        let same : a ≡ document.0 = own ∙ first ∙ last in
        absurd (omega (arith, past, same))

resting : (s : Store) → Still s → (a : ℕ) → is_thing s a ≡ true → (e : EventParts) → (object_at s.heap.objects a).class ≡ class.Event e → IsResting e
resting s still a made e is = record {
  quiet = still.events a e is;
  sent = shaped_sent s (object_at s.heap.objects a) (object_at s.heap.objects a).class e is (still.shaped.made a made);
}

-- ---- two pages

module _ (s t : Store) (ks js : List ℕ) (one : Still s) (two : Still t) (left : AreReached s ks) (right : AreReached t js)
    (same : compact s ks ≡ compact t js) where
  abbrev m : List Pair
  m = pairs ks js

  abbrev L : Links
  L = links_by (pairs ks js) s t

  abbrev N : ℕ → ℕ → Type 0
  N = NodesCorrespond (pairs ks js) s t

  things : things_at s ks ks ≡ things_at t js js
  things = ap (λ c. c.things) same

  count : length js ≡ length ks
  count = count_same s t ks js ks js things

  by_place : (a b : ℕ) → IsKnown ks a → IsKnown js b → place_of ks a ≡ place_of js b → Corresponds (pairs ks js) a b
  by_place = same_place ks js count (all_young s ks one left) (all_young t js two right)

  left_side : (a b : ℕ) → In (pair a b) m → is_in a ks ≡ true
  left_side a b i = subst (λ xs. is_in a xs ≡ true) (firsts_are ks js count) (first_in m a b i)

  right_side : (a b : ℕ) → In (pair a b) m → is_in b js ≡ true
  right_side a b i = subst (λ xs. is_in b xs ≡ true) (seconds_are ks js count) (second_in m a b i)

  all_left : AreReached s (firsts m)
  all_left = subst (AreReached s) (sym (firsts_are ks js count)) left

  all_right : AreReached t (seconds m)
  all_right = subst (AreReached t) (sym (seconds_are ks js count)) right

  -- ---- what the compact pages tell of two objects

  record AreTold (a b : ℕ) : Type 0 where
    told : thing_of s ks (object_at s.heap.objects a) ≡ thing_of t js (object_at t.heap.objects b)
    from : AreKnown ks (links s a)
    to : AreKnown js (links t b)

  documents_told : AreTold document.0 document.0
  documents_told = record { told = ap (λ c. c.document) same; from = document_links s ks one left; to = document_links t js two right }

  things_told : (a b : ℕ) → In (pair a b) m → AreTold a b
  things_told a b i = record {
    told = thing_same s t ks js ks js a b i things;
    from = thing_links s ks one left a (left_side a b i);
    to = thing_links t js two right b (right_side a b i);
  }

  all_told : (a b : ℕ) → Corresponds (pairs ks js) a b → built_in_count ≤ a → AreTold a b
  all_told a b (built_in e low) past =
      let first : document.0 ≡ a = omega (arith, low, past) in
      subst (λ x. AreTold x b) first (subst (λ y. AreTold document.0 y) (first ∙ e) documents_told)
  all_told a b (thing i) past = things_told a b i

  -- ---- nodes and their objects

  node_pair : (a b : ℕ) → Corresponds (pairs ks js) a b → (k l : NodeId) → (object_at s.heap.objects a).class ≡ class.Node k
      → (object_at t.heap.objects b).class ≡ class.Node l → NodesCorrespond (pairs ks js) s t k.0 l.0
  node_pair a b both k l first second =
      let x = one.shaped.host.node_of a k.0 first in
      let y = two.shaped.host.node_of b l.0 second in
      record {
        one = x.0;
        two = y.0;
        objects = subst (λ n. Corresponds m n (object_of_node t.host.objects l).0) (sym (ap (λ at. at.0) x.1))
            (subst (λ n. Corresponds m a n) (sym (ap (λ at. at.0) y.1)) both);
      }

  -- ---- objects

  things_alike : (a b : ℕ) → In (pair a b) m
      → AreAlike s t ks js by_place (object_at s.heap.objects a).class (object_at t.heap.objects b).class (object_at s.heap.objects a).proto (object_at t.heap.objects b).proto
  things_alike a b i =
      let o : Object = object_at s.heap.objects a in
      let p : Object = object_at t.heap.objects b in
      let w = things_told a b i in
      let made_left : is_thing s a ≡ true = thing_reached s a (left.sound a (left_side a b i)) in
      let made_right : is_thing t b ≡ true = thing_reached t b (right.sound b (right_side a b i)) in
      let maker : maker_as s ks o.proto o.class ≡ maker_as t js p.proto p.class = ap (λ x. x.maker) w.told in
      let tags : class_tag o.class ≡ class_tag p.class =
      sym (tag_told s ks o o.proto o.class (one.shaped.made a made_left) (made_is_no_document s one a (young s ks left a (left_side a b i))))
      ∙ ap maker_tag maker
      ∙ tag_told t js p p.proto p.class (two.shaped.made b made_right) (made_is_no_document t two b (young t js right b (right_side a b i)))
      in
      alike s t ks js by_place o p o.class p.class (one.shaped.made a made_left) (two.shaped.made b made_right)
      (eq-eqb (class_tag o.class) (class_tag p.class) tags) maker (ap (λ x. x.event) w.told)
      (λ j h. w.from j (made_among s a j (among_left j (proto_links o.proto) (class_links s o.class) h)))
      (λ j h. w.to j (made_among t b j (among_left j (proto_links p.proto) (class_links t p.class) h)))
      (λ j h. w.from j (made_among s a j (among_right j (proto_links o.proto) (class_links s o.class) h)))
      (λ j h. w.to j (made_among t b j (among_right j (proto_links p.proto) (class_links t p.class) h)))
      (λ j h. w.from j (host_among s a j h)) (λ j h. w.to j (host_among t b j h)) (λ k l e f. node_pair a b (thing i) k l e f)
      (λ e is. resting s one a made_left e is) (λ e is. resting t two b made_right e is)

  told_props : (a b : ℕ) → AreTold a b → Entries (PropRel L) (object_at s.heap.objects a).props (object_at t.heap.objects b).props
  told_props a b w =
      props_rel L ks js by_place (object_at s.heap.objects a).props (object_at t.heap.objects b).props (ap (λ x. x.props) w.told)
      (λ j h. w.from j (props_among s a j h)) (λ j h. w.to j (props_among t b j h))

  thing_rel : (a b : ℕ) → In (pair a b) m → ObjectRel L (object_at s.heap.objects a) (object_at t.heap.objects b)
  thing_rel a b i =
      let w = things_told a b i in
      let h = things_alike a b i in
      record {
        class = h.class;
        proto = h.proto;
        extensible = ap (λ x. x.extensible) w.told;
        closed = one.shaped.not_closed a (thing_reached s a (left.sound a (left_side a b i)))
            ∙ sym (two.shaped.not_closed b (thing_reached t b (right.sound b (right_side a b i))));
        props = told_props a b w;
      }

  document_rel : ObjectRel L (object_at s.heap.objects document.0) (object_at t.heap.objects document.0)
  document_rel =
      let o : Object = object_at s.heap.objects document.0 in
      let p : Object = object_at t.heap.objects document.0 in
      let first : o.class ≡ class.Node (nth_node 0) = document_class s one in
      let second : p.class ≡ class.Node (nth_node 0) = document_class t two in
      record {
        class = both_nodes L o.class p.class (nth_node 0) (nth_node 0) first second
            (node_pair document.0 document.0 (built_in refl (omega arith)) (nth_node 0) (nth_node 0) first second);
        proto = built_proto s t ks js by_place o.proto p.proto node_prototype (shape_proto s o o.class (nth_node 0) first one.shaped.document)
            (shape_proto t p p.class (nth_node 0) second two.shaped.document) node_low;
        extensible = ap (λ x. x.extensible) documents_told.told;
        closed = one.shaped.document_open ∙ sym two.shaped.document_open;
        props = told_props document.0 document.0 documents_told;
      }

  -- ---- what is built in

  abbrev W : World
  W = pair_world s t (pairs ks js)

  down : (a b : ℕ) → Named W a b → Corresponds (pairs ks js) a b
  down = name_back (pairs ks js) s t one two

  built_ins_named : HasBuiltIns W
  built_ins_named k low = name_up (pairs ks js) s t one two k k (built_in refl (omega (arith, low)))

  class_down : (c d : Class) → ClassRel (named W) c d → ClassRel L c d
  class_down _ _ plain = plain
  class_down _ _ array = array
  class_down _ _ (page h) = page (sym h.code)
  class_down _ _ native = native
  class_down _ _ (bound h v vs) = bound (down _ _ h) (value_up down _ _ v) (values_up down _ _ vs)
  class_down _ _ fault = fault
  class_down _ _ math = math
  class_down _ _ window = window
  class_down _ _ (node h) = node (node_back (pairs ks js) s t one two _ _ h)
  class_down _ _ (event h) = event (event_up down _ _ h)

  object_down : (o p : Object) → ObjectRel (named W) o p → ObjectRel L o p
  object_down o p h = record {
    class = class_down o.class p.class h.class;
    proto = maybe_map (ids_up down) h.proto;
    extensible = h.extensible;
    closed = h.closed;
    props = entries_map (prop_up down) h.props;
  }

  built_in_self : (k : ℕ) → ObjectRel L (built_in_at k) (built_in_at k)
  built_in_self k = object_down (built_in_at k) (built_in_at k) (built_in_itself built_ins_named k)

  globals_rel : Entries (PropRel L) (globals_of s) (globals_of t)
  globals_rel =
      props_rel L ks js by_place (globals_of s) (globals_of t) (ap (λ c. c.globals) same) (global_links s ks one left) (global_links t js two right)

  built_in_rel : (k : ℕ) → k < built_in_count → ObjectRel L (object_at s.heap.objects k) (object_at t.heap.objects k)
  built_in_rel zero low = windows_alike L s t one.shaped.window two.shaped.window (built_in_self 0).props globals_rel
  built_in_rel (suc k) low =
      let past : 0 < suc k = omega arith in
      built_in_alike L ks js by_place s t (suc k) past low (built_in_self (suc k))
      (as_made ks (suc k) (object_at s.heap.objects (suc k)) past (one.shaped.built_ins (suc k) past low))
      (as_made js (suc k) (object_at t.heap.objects (suc k)) past (two.shaped.built_ins (suc k) past low))
      (ap (λ c. c.changes (suc k)) same)

  begun_rel : (k : ℕ) → k < first_thing → ObjectRel L (object_at s.heap.objects k) (object_at t.heap.objects k)
  begun_rel k low = by (cases_lt k built_in_count)
    where
      by : (k < built_in_count) ⊎ (built_in_count ≤ k) → ObjectRel L (object_at s.heap.objects k) (object_at t.heap.objects k)
      by (inl first) = built_in_rel k first
      by (inr past) =
          let last : document.0 ≡ k = omega (arith, low, past) in
          subst (λ j. ObjectRel L (object_at s.heap.objects j) (object_at t.heap.objects j)) last document_rel

  object_rel : (a b : ℕ) → Corresponds (pairs ks js) a b → ObjectRel L (object_at s.heap.objects a) (object_at t.heap.objects b)
  object_rel a b (built_in e low) = subst (λ k. ObjectRel L (object_at s.heap.objects a) (object_at t.heap.objects k)) e (begun_rel a low)
  object_rel a b (thing i) = thing_rel a b i

  -- ---- needed variables

  need_rel : (a b : ℕ) → Corresponds (pairs ks js) a b → (c d : Code) (e f : Option EnvId) → (object_at s.heap.objects a).class ≡ class.Page c e
      → (object_at t.heap.objects b).class ≡ class.Page d f → Entries (ValueRel L) (needs_of s e c) (needs_of t f d)
  need_rel a b (built_in same low) c d e f first second = absurd (begun_is_no_function s one a c e low first)
  need_rel a b (thing i) c d e f first second =
      let o : Object = object_at s.heap.objects a in
      let p : Object = object_at t.heap.objects b in
      let w = things_told a b i in
      let maker : maker_as s ks o.proto (class.Page c e) ≡ maker_as t js p.proto (class.Page d f) =
      sym (ap (maker_as s ks o.proto) first) ∙ ap (λ x. x.maker) w.told ∙ ap (maker_as t js p.proto) second
      in
      needs_rel L ks js by_place (needs_of s e c) (needs_of t f d) (ap needs_told maker)
      (λ j h. w.from j (made_among s a j (among_right j (proto_links o.proto) (class_links s o.class) (subst (λ x. is_in j (class_links s x) ≡ true) (sym first) h))))
      (λ j h. w.to j (made_among t b j (among_right j (proto_links p.proto) (class_links t p.class) (subst (λ x. is_in j (class_links t x) ≡ true) (sym second) h))))

  -- ---- nodes

  module _ (a b : ℕ) (x : NodesCorrespond (pairs ks js) s t a b) where
    abbrev k : ℕ
    k = (object_of_node s.host.objects (nth_node a)).0

    abbrev j : ℕ
    j = (object_of_node t.host.objects (nth_node b)).0

    first : (object_at s.heap.objects k).class ≡ class.Node (nth_node a)
    first = one.shaped.host.object_of a x.one

    second : (object_at t.heap.objects j).class ≡ class.Node (nth_node b)
    second = two.shaped.host.object_of b x.two

    w : AreTold k j
    w = all_told k j x.objects (node_is_past s one k (nth_node a) first)

    node_told : node_of s.host ks (nth_node a) ≡ node_of t.host js (nth_node b)
    node_told = sym (ap (λ d. node_as s.host ks d) first) ∙ ap (λ y. y.node) w.told ∙ ap (λ d. node_as t.host js d) second

    from_node : AreKnown ks (node_links s.host (nth_node a))
    from_node n h = w.from n (host_among s k n (subst (λ d. is_in n (host_links s.host d) ≡ true) (sym first) h))

    to_node : AreKnown js (node_links t.host (nth_node b))
    to_node n h = w.to n (host_among t j n (subst (λ d. is_in n (host_links t.host d) ≡ true) (sym second) h))

    content_same : (node_at s.host.nodes a).content ≡ (node_at t.host.nodes b).content
    content_same =
        let o : Object = object_at s.heap.objects k in
        let p : Object = object_at t.heap.objects j in
        let kind = kinds_same ks js o.proto p.proto (node_at s.host.nodes a).content.kind (node_at t.host.nodes b).content.kind
        (sym (ap (maker_as s ks o.proto) first) ∙ ap (λ y. y.maker) w.told ∙ ap (maker_as t js p.proto) second)
        in
        let attributes : (node_at s.host.nodes a).content.attributes ≡ (node_at t.host.nodes b).content.attributes = ap (λ n. n.attributes) node_told in
        let value : (node_at s.host.nodes a).content.value ≡ (node_at t.host.nodes b).content.value = ap (λ n. n.value) node_told in
        (λ i. record { kind = kind i; attributes = attributes i; value = value i })

    children_rel : Each (NodeIds N) (children_at s.host.nodes a) (children_at t.host.nodes b)
    children_rel =
        let cs = children_at s.host.nodes a in
        let ds = children_at t.host.nodes b in
        let up = parent_links s.host.objects (parent_at s.host.nodes a) in
        let above = parent_links t.host.objects (parent_at t.host.nodes b) in
        let calls = calls_links (heard_at a s.host.listeners) in
        let called = calls_links (heard_at b t.host.listeners) in
        let down_links = nodes_links s.host.objects cs in
        let low_links = nodes_links t.host.objects ds in
        nodes_rel s t ks js by_place cs ds (child_in s.host.nodes one.shaped.host.sound.nodes.trees a) (child_in t.host.nodes two.shaped.host.sound.nodes.trees b)
        (ap (λ n. n.children) node_told) (λ n h. from_node n (among_right n up (down_links ++ calls) (among_left n down_links calls h)))
        (λ n h. to_node n (among_right n above (low_links ++ called) (among_left n low_links called h)))

    heard_rel : Each (ListenersCorrespond (pairs ks js)) (heard_at a s.host.listeners) (heard_at b t.host.listeners)
    heard_rel =
        let up = parent_links s.host.objects (parent_at s.host.nodes a) in
        let above = parent_links t.host.objects (parent_at t.host.nodes b) in
        let calls = calls_links (heard_at a s.host.listeners) in
        let called = calls_links (heard_at b t.host.listeners) in
        let down_links = nodes_links s.host.objects (children_at s.host.nodes a) in
        let low_links = nodes_links t.host.objects (children_at t.host.nodes b) in
        listeners_rel s t ks js by_place (heard_at a s.host.listeners) (heard_at b t.host.listeners) (ap (λ n. n.listeners) node_told)
        (λ n h. from_node n (among_right n up (down_links ++ calls) (among_right n down_links calls h)))
        (λ n h. to_node n (among_right n above (low_links ++ called) (among_right n low_links called h)))

    right_parent : (p : NodeId) → parent_at s.host.nodes a ≡ Some p → HasRight N p.0
    right_parent p up = by (from_node n (among_left n (parent_links s.host.objects (parent_at s.host.nodes a)) rest among))
      where
        n : ℕ
        n = (object_of_node s.host.objects p).0

        rest : List ℕ
        rest = nodes_links s.host.objects (children_at s.host.nodes a) ++ calls_links (heard_at a s.host.listeners)

        among : is_in n (parent_links s.host.objects (parent_at s.host.nodes a)) ≡ true
        among = subst (λ o. is_in n (parent_links s.host.objects o) ≡ true) (sym up) (head_in n [])

        inside : p.0 < length s.host.nodes
        inside = parent_in s.host.nodes one.shaped.host.sound.nodes.trees a p up

        is_node : (object_at s.heap.objects n).class ≡ class.Node p
        is_node = one.shaped.host.object_of p.0 inside

        by : IsKnown ks n → HasRight N p.0
        by (inl low) =
            let past = node_is_past s one n p is_node in
            let last : n ≡ document.0 = omega (arith, low, past) in
            record {
              other = 0;
              linked = node_pair n document.0 (built_in last low) p (nth_node 0) is_node (document_class t two);
            }
        by (inr found) =
            let q = second_of m n (subst (λ xs. is_in n xs ≡ true) (sym (firsts_are ks js count)) found) in
            let too = node_on_right L (object_at s.heap.objects n).class (object_at t.heap.objects q.other).class (things_alike n q.other q.among).class p is_node in
            record { other = too.node.0; linked = node_pair n q.other (thing q.among) p too.node is_node too.is }

    left_parent : (q : NodeId) → parent_at t.host.nodes b ≡ Some q → HasLeft N q.0
    left_parent q up = by (to_node n (among_left n (parent_links t.host.objects (parent_at t.host.nodes b)) rest among))
      where
        n : ℕ
        n = (object_of_node t.host.objects q).0

        rest : List ℕ
        rest = nodes_links t.host.objects (children_at t.host.nodes b) ++ calls_links (heard_at b t.host.listeners)

        among : is_in n (parent_links t.host.objects (parent_at t.host.nodes b)) ≡ true
        among = subst (λ o. is_in n (parent_links t.host.objects o) ≡ true) (sym up) (head_in n [])

        inside : q.0 < length t.host.nodes
        inside = parent_in t.host.nodes two.shaped.host.sound.nodes.trees b q up

        is_node : (object_at t.heap.objects n).class ≡ class.Node q
        is_node = two.shaped.host.object_of q.0 inside

        by : IsKnown js n → HasLeft N q.0
        by (inl low) =
            let past = node_is_past t two n q is_node in
            let last : document.0 ≡ n = omega (arith, low, past) in
            record {
              other = 0;
              linked = node_pair document.0 n (built_in last (omega arith)) (nth_node 0) q (document_class s one) is_node;
            }
        by (inr found) =
            let p = first_of m n (subst (λ xs. is_in n xs ≡ true) (sym (seconds_are ks js count)) found) in
            let too = node_on_left L (object_at s.heap.objects p.other).class (object_at t.heap.objects n).class (things_alike p.other n p.among).class q is_node in
            record { other = too.node.0; linked = node_pair p.other n (thing p.among) too.node q too.is is_node }

  node_rel : (a b : ℕ) → N a b → NodeRel N (node_at s.host.nodes a) (node_at t.host.nodes b)
  node_rel a b x = record {
    content = content_same a b x;
    parent = parents_rel N s.host.nodes t.host.nodes one.shaped.host.sound.nodes.trees two.shaped.host.sound.nodes.trees children_rel
        (nodes_apart (pairs ks js) s t one two all_left all_right) right_parent left_parent a b x;
    children = children_rel a b x;
  }

  -- ---- the pages

  pub pages_agree : Agree (pairs ks js) s t
  pages_agree = record {
    left = all_left;
    right = all_right;
    objects = object_rel;
    needs = need_rel;
    nodes = node_rel;
    listeners = heard_rel;
    timers = timers_rel s t ks js by_place s.host.timers t.host.timers (ap (λ c. c.timers) same) (timer_links s ks one left) (timer_links t js two right);
  }

pub equal_compacts_agree : EqualCompactsAgree
equal_compacts_agree = pages_agree
