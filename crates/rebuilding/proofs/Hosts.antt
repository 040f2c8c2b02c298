-- The hosts of a page that was saved and of the one that was rebuilt mean the same: nodes with their objects, listeners, timers and clocks.
use Rattle.std.proofs.Common.{◌≡◌, ◌⊎◌, inl, inr, refl, sym, ap, subst, ◌∙◌, ℕ, zero, suc, ◌<◌, ◌≤◌, Bool, true, false, nat_eq, List, [], ◌∷◌, ◌++◌, Option, Some, None, length, arith}
use Rattle.std.specs.Prelude.{⊤}
use Rattle.std.proofs.lemmas.Bool.{cases_eq, cases_lt, eq-eqb, eqb-true, ne_eqb, or_cases}
use Rattle.js_values.specs.declared.ids.NodeId.{NodeId}
use Rattle.dom_tree.proofs.Callers.{child_in, child_of_parent, has_head, has_tail, parent_in, parent_of_child}
use Rattle.dom_tree.specs.Node.{children_at, has, node_at, parent_at}
use Rattle.object_heap.specs.Chain.{object_at}
use Rattle.object_heap.specs.Environment.{Environment}
use Rattle.object_heap.specs.Heap.{Contents}
use Rattle.object_heap.specs.declared.object.Class.{Class}
use Rattle.object_heap.specs.declared.object.Class.TheVariants as class
use Rattle.page_host.specs.Host.{Host, object_of_node}
use Rattle.page_host.specs.declared.listener.Listener.{Listener}
use Rattle.page_meaning.specs.Places.{at_place, built_in_count, document}
use Rattle.page_meaning.specs.Store.{Store}
use Rattle.timer_queue.specs.Timers.{IsIn}
use Rattle.timer_queue.specs.declared.timer.Live.{Live}
use Rattle.heap_relations.specs.Naming.{Named, World}
use Rattle.heap_relations.specs.Related.{Each, Maybe, each, no_more, none, some}
use Rattle.host_relations.proofs.Callers.{rebuilt_timers_agree}
use Rattle.host_relations.specs.Hosts.{HostRel, ListenerRel}
use Rattle.host_relations.specs.Linked.{Linked}
use Rattle.host_relations.specs.Nodes.{NodeIds, NodeRel, NodesRel}
use Rattle.host_relations.specs.Restart as restart
use Rattle.host_relations.specs.Timers.{TimersRel}
use Rattle.agreement.specs.Acts.{clocks_of}
use Rattle.heap_walker.proofs.Callers.{among_left, among_right, document_among, host_among, links_in_walk, roots_in_walk, timers_among}
use Rattle.heap_walker.specs.Still.{Still}
use Rattle.heap_walker.specs.Things.{IsWalk, calls_links, heard_at, host_links, is_in, links, node_links, nodes_links, parent_links}
use Rattle.page_writer.specs.Frame.{nth_node}
use Rattle.rebuild_plan.proofs.Callers.{built_in_is_no_node, document_class}
use Rattle.rebuild_plan.specs.Compact.{moved, place_of}
use Rattle.rebuild_plan.specs.Moved.{first_thing}
use Rattle.rebuild_plan.specs.Nodes.{moved_listeners, moved_nodes, node_as, node_of}
use Rattle.rebuild_plan.specs.Timers.{moved_timers}
use Rattle.rebuilding.specs.Rebuilt as rebuilt
use Rattle.rebuilding.specs.Rebuilt.{ClassIsRebuilt, HostIsRebuilt, IsOwned, IsRebuilt, kind_as, nth, sited_ids, sited_listeners, sited_node, sited_timers}
use Rattle.rebuilding.specs.Scene.{Scene}
use Rattle.rebuilding.specs.Sites.{site, sited}
use Rattle.rebuilding.proofs.Basics.{heads_same, tails_same}
use Rattle.rebuilding.proofs.Counterparts.{named_site}
use Rattle.rebuilding.proofs.Known.{IsKnown, head_in, tail_in, timer_in}
use Rattle.rebuilding.proofs.Naming.{IsNodePair, built_in_paired, node_pair_at, nodes_paired, pair_is, rebuilt_world, site_of_built_in, thing_at, thing_paired}
use Rattle.rebuilding.proofs.OneToOne.{same_places, site_below}
use Rattle.rebuilding.proofs.Placed.{place_in, young_walk}
use Rattle.rebuilding.proofs.OwnObjects.{node_same}

-- ---- which node stands for which

pub record IsNodeToo (d : Class) : Type 0 where
  pub node : NodeId
  pub is : d ≡ class.Node node

module _ {c : Scene} {es : List Environment} {s : Store} {things sites : List ℕ} {k : ℕ} where
  node_on_right : {a b : Class} → ClassIsRebuilt c es s things sites k a b → (p : NodeId) → a ≡ class.Node p → IsNodeToo b
  node_on_right rebuilt.plain p e = absurd (cc e)
  node_on_right rebuilt.list p e = absurd (cc e)
  node_on_right rebuilt.fault p e = absurd (cc e)
  node_on_right (rebuilt.page r) p e = absurd (cc e)
  node_on_right rebuilt.bound p e = absurd (cc e)
  node_on_right (rebuilt.node {b = q}) p e = record { node = q; is = refl }
  node_on_right rebuilt.event p e = absurd (cc e)

  node_on_left : {a b : Class} → ClassIsRebuilt c es s things sites k a b → (q : NodeId) → b ≡ class.Node q → IsNodeToo a
  node_on_left rebuilt.plain q e = absurd (cc e)
  node_on_left rebuilt.list q e = absurd (cc e)
  node_on_left rebuilt.fault q e = absurd (cc e)
  node_on_left (rebuilt.page r) q e = absurd (cc e)
  node_on_left rebuilt.bound q e = absurd (cc e)
  node_on_left (rebuilt.node {a = p}) q e = record { node = p; is = refl }
  node_on_left rebuilt.event q e = absurd (cc e)

-- ---- listeners

-- each is of this node
abbrev AreAt : ℕ → List Listener → Type 0
AreAt k [] = ⊤
AreAt k (l ∷ ls) = (l.node.0 ≡ k) × AreAt k ls

heard_there : (k : ℕ) (ls : List Listener) → AreAt k (heard_at k ls)
heard_there k [] = tt
heard_there k (l ∷ ls) = by (nat_eq k l.node.0) refl (heard_there k ls)
  where
    by : (b : Bool) → nat_eq k l.node.0 ≡ b → AreAt k (heard_at k ls) → AreAt k (heard_at k (l ∷ ls))
    by true e later = rw e (sym (eqb-true k l.node.0 e), later)
    by false e later = rw e later

-- ---- timers

same_timers : (things sites : List ℕ) (clock : ℕ) (ts : List Live)
    → restart.moved_timers clock (λ at. sited sites (moved things at)) ts ≡ sited_timers sites (moved_timers things clock ts)
same_timers things sites clock [] = refl
same_timers things sites clock (t ∷ ts) =
    ap (λ us. restart.moved_timer clock (λ at. sited sites (moved things at)) t ∷ us) (same_timers things sites clock ts)

module _ (c : Scene) (s : Store) (things : List ℕ) (h : Contents) (g : Host) (sites : List ℕ) (still : Still s) (walk : IsWalk s things) (is : IsRebuilt c s things h g sites) where
  abbrev W : World
  W = rebuilt_world s h things sites

  -- ---- linked nodes and their objects

  -- the objects of two nodes, which are one thing, or the document
  record AreNodes (a b : ℕ) : Type 0 where
    one : ℕ
    two : ℕ
    named : Named W one two
    left : (object_at s.heap.objects one).class ≡ class.Node (nth_node a)
    right : (object_at h.objects two).class ≡ class.Node (nth_node b)
    host : HostIsRebuilt s things g sites two (object_at s.heap.objects one) (object_at h.objects two)
    from : (one ≡ document.0) ⊎ (is_in one things ≡ true)
    to : (two ≡ document.0) ⊎ (is_in two sites ≡ true)

  nodes_are : (a b : ℕ) → Linked W a b → AreNodes a b
  nodes_are a b l =
      let p = node_pair_at s.heap.objects h.objects (document.0 ∷ things) (document.0 ∷ sites) a b l.named in
      by p.place p.below p.is
    where
      by : (n : ℕ) → n < length (document.0 ∷ things)
          → IsNodePair (object_at s.heap.objects (nth (document.0 ∷ things) n)).class (object_at h.objects (nth (document.0 ∷ sites) n)).class a b → AreNodes a b
      by zero below p = record {
        one = document.0;
        two = document.0;
        named = record { named = built_in_paired things sites document.0 (omega arith) };
        left = p.one;
        right = p.two;
        host = is.document.host;
        from = inl refl;
        to = inl refl;
      }
      by (suc n) below p = by_thing (omega (arith, below))
        where
          by_thing : n < length things → AreNodes a b
          by_thing inside = record {
            one = nth things n;
            two = nth sites n;
            named = record { named = thing_paired things sites is.count n inside };
            left = p.one;
            right = p.two;
            host = is.hosted n inside;
            from = inr (place_in things n inside);
            to = inr (place_in sites n (site_below c s things h g sites walk is n inside));
          }

  left_own : {a b : ℕ} → AreNodes a b → (one : ℕ) → (object_at s.heap.objects one).class ≡ class.Node (nth_node a)
      → (a < length s.host.nodes) × (object_of_node s.host.objects (nth_node a) ≡ record { 0 = one })
  left_own {a = a} x one left = still.shaped.host.node_of one a left

  right_own : {a b : ℕ} (x : AreNodes a b) → (b < length g.nodes) × (object_of_node g.objects (nth_node b) ≡ at_place x.two)
  right_own x = subst (λ d. IsOwned g x.two d) x.right x.host.own

  left_place : {a b : ℕ} (x : AreNodes a b) → (object_of_node s.host.objects (nth_node a)).0 ≡ x.one
  left_place x = ap (λ at. at.0) (left_own x x.one x.left).1

  right_place : {a b : ℕ} (x : AreNodes a b) → (object_of_node g.objects (nth_node b)).0 ≡ x.two
  right_place x = ap (λ at. at.0) (right_own x).1

  objects_named : (a b : NodeId) → Linked W a.0 b.0 → Named W (object_of_node s.host.objects a).0 (object_of_node g.objects b).0
  objects_named a b l =
      let x = nodes_are a.0 b.0 l in
      subst (λ j. Named W j (object_of_node g.objects b).0) (sym (left_place x)) (subst (λ j. Named W x.one j) (sym (right_place x)) x.named)

  both_there : (a b : ℕ) → Linked W a b → (a < length s.host.nodes) × (b < length g.nodes)
  both_there a b l = let x = nodes_are a b l in ((left_own x x.one x.left).0, (right_own x).0)

  one_to_one : (a b i j : ℕ) → Linked W a b → Linked W i j → nat_eq a i ≡ nat_eq b j
  one_to_one a b i j l m = by (cases_eq a i)
    where
      x : AreNodes a b
      x = nodes_are a b l

      y : AreNodes i j
      y = nodes_are i j m

      places : nat_eq x.one y.one ≡ nat_eq x.two y.two
      places = same_places c s things h g sites walk is x.one x.two y.one y.two (pair_is things sites x.one x.two x.named.named) (pair_is things sites y.one y.two y.named.named)

      to_right : x.one ≡ y.one → x.two ≡ y.two
      to_right e = eqb-true x.two y.two (sym places ∙ eq-eqb x.one y.one e)

      to_left : x.two ≡ y.two → x.one ≡ y.one
      to_left e = eqb-true x.one y.one (places ∙ eq-eqb x.two y.two e)

      by : (a ≡ i) ⊎ (a ≡ i → ⊥) → nat_eq a i ≡ nat_eq b j
      by (inl same) =
          let ones : x.one ≡ y.one = sym (left_place x) ∙ ap (λ n. (object_of_node s.host.objects (nth_node n)).0) same ∙ left_place y in
          let equal : b ≡ j = node_same (sym x.right ∙ ap (λ n. (object_at h.objects n).class) (to_right ones) ∙ y.right) in
          eq-eqb a i same ∙ sym (eq-eqb b j equal)
      by (inr other) =
          ne_eqb a i other
          ∙ sym (ne_eqb b j (λ same.
          let twos : x.two ≡ y.two = sym (right_place x) ∙ ap (λ n. (object_of_node g.objects (nth_node n)).0) same ∙ right_place y in
          other (node_same (sym x.left ∙ ap (λ n. (object_at s.heap.objects n).class) (to_left twos) ∙ y.left))))

  -- ---- what is known is linked

  known_linked : (p q : NodeId) → p.0 < length s.host.nodes → q.0 < length g.nodes → IsKnown things (object_of_node s.host.objects p).0
      → (object_of_node g.objects q).0 ≡ site sites (place_of things (object_of_node s.host.objects p).0) → Linked W p.0 q.0
  known_linked p q there inside known at = by known
    where
      k : ℕ
      k = (object_of_node s.host.objects p).0

      left : (object_at s.heap.objects k).class ≡ class.Node p
      left = still.shaped.host.object_of p.0 there

      right : (object_at h.objects (object_of_node g.objects q).0).class ≡ class.Node q
      right = is.hosting.objects q.0 inside

      linked_at : (n : ℕ) → n < length (document.0 ∷ things) → k ≡ nth (document.0 ∷ things) n → (object_of_node g.objects q).0 ≡ nth (document.0 ∷ sites) n → Linked W p.0 q.0
      linked_at n below one two = record {
        named = nodes_paired s.heap.objects h.objects (document.0 ∷ things) (document.0 ∷ sites) n below (ap suc is.count) p q
            (ap (λ j. (object_at s.heap.objects j).class) (sym one) ∙ left) (ap (λ j. (object_at h.objects j).class) (sym two) ∙ right);
      }

      low : k < first_thing → (k < built_in_count) ⊎ (built_in_count ≤ k) → Linked W p.0 q.0
      low small (inl built) = absurd (built_in_is_no_node s still k p built left)
      low small (inr past) =
          let same : k ≡ document.0 = omega (arith, small, past) in
          linked_at 0 (omega arith) same (at ∙ site_of_built_in things sites k small (young_walk s things walk) ∙ same)

      by : IsKnown things k → Linked W p.0 q.0
      by (inl small) = low small (cases_lt k built_in_count)
      by (inr found) = let t = thing_at things sites k found in linked_at (suc t.place) (omega (arith, t.below)) t.one (at ∙ t.two)

  links_known : {a b : ℕ} → AreNodes a b → (j : ℕ) → is_in j (node_links s.host (nth_node a)) ≡ true → IsKnown things j
  links_known {a = a} x j i = by x.from
    where
      linked : is_in j (links s x.one) ≡ true
      linked = host_among s x.one j (subst (λ d. is_in j (host_links s.host d) ≡ true) (sym x.left) i)

      by : (x.one ≡ document.0) ⊎ (is_in x.one things ≡ true) → IsKnown things j
      by (inl same) = roots_in_walk s things still walk j (document_among s j (subst (λ k. is_in j (links s k) ≡ true) same linked))
      by (inr found) = links_in_walk s things still walk x.one found j linked

  -- ---- what nodes hold

  -- what is told of one is told of the other
  node_told : {a b : ℕ} → AreNodes a b → node_of g [] (nth_node b) ≡ sited_node sites (node_of s.host things (nth_node a))
  node_told x = sym (ap (λ d. node_as g [] d) x.right) ∙ x.host.node ∙ ap (λ d. sited_node sites (node_as s.host things d)) x.left

  content_same : {a b : ℕ} → AreNodes a b → (node_at s.host.nodes a).content ≡ (node_at g.nodes b).content
  content_same {a = a} {b = b} x =
      let kinds : kind_as g (class.Node (nth_node b)) ≡ kind_as s.host (class.Node (nth_node a)) =
      sym (ap (λ d. kind_as g d) x.right) ∙ x.host.kind ∙ ap (λ d. kind_as s.host d) x.left
      in
      let kind : (node_at s.host.nodes a).content.kind ≡ (node_at g.nodes b).content.kind = cc kinds in
      let attributes : (node_at s.host.nodes a).content.attributes ≡ (node_at g.nodes b).content.attributes = sym (ap (λ n. n.attributes) (node_told x)) in
      let value : (node_at s.host.nodes a).content.value ≡ (node_at g.nodes b).content.value = sym (ap (λ n. n.value) (node_told x)) in
      (λ i. record { kind = kind i; attributes = attributes i; value = value i })

  each_child : (cs ds : List NodeId) → ((n : ℕ) → has n cs ≡ true → n < length s.host.nodes) → ((n : ℕ) → has n ds ≡ true → n < length g.nodes)
      → ((j : ℕ) → is_in j (nodes_links s.host.objects cs) ≡ true → IsKnown things j)
      → moved_nodes [] g.objects ds ≡ sited_ids sites (moved_nodes things s.host.objects cs) → Each (NodeIds (Linked W)) cs ds
  each_child [] [] there inside known e = no_more
  each_child [] (d ∷ ds) there inside known e = absurd (cc e)
  each_child (k ∷ cs) [] there inside known e = absurd (cc e)
  each_child (k ∷ cs) (d ∷ ds) there inside known e =
      let at : ℕ = (object_of_node s.host.objects k).0 in
      let rest : List ℕ = nodes_links s.host.objects cs in
      each (record {
        linked = known_linked k d (there k.0 (has_head k cs)) (inside d.0 (has_head d ds)) (known at (head_in at rest)) (ap (λ o. o.0) (heads_same e));
      })
      (each_child cs ds (λ n i. there n (has_tail (nth_node n) k cs i)) (λ n i. inside n (has_tail (nth_node n) d ds i)) (λ j i. known j (tail_in j at rest i)) (tails_same e))

  children_rel : (a b : ℕ) → Linked W a b → Each (NodeIds (Linked W)) (children_at s.host.nodes a) (children_at g.nodes b)
  children_rel a b l =
      let x = nodes_are a b l in
      let up = parent_links s.host.objects (parent_at s.host.nodes a) in
      let down = nodes_links s.host.objects (children_at s.host.nodes a) in
      let calls = calls_links (heard_at a s.host.listeners) in
      each_child (children_at s.host.nodes a) (children_at g.nodes b) (child_in s.host.nodes still.shaped.host.sound.nodes.trees a)
      (child_in g.nodes is.hosting.sound.nodes.trees b)
      (λ j i. links_known x j (among_right j up (down ++ calls) (among_left j down calls i)))
      (ap (λ n. n.children) (node_told x))

  each_heard : (a b : ℕ) → Linked W a b → (ls ms : List Listener) → AreAt a ls → AreAt b ms → ((j : ℕ) → is_in j (calls_links ls) ≡ true → IsKnown things j)
      → moved_listeners [] ms ≡ sited_listeners sites (moved_listeners things ls) → Each (ListenerRel W) ls ms
  each_heard a b n [] [] left right known e = no_more
  each_heard a b n [] (m ∷ ms) left right known e = absurd (cc e)
  each_heard a b n (l ∷ ls) [] left right known e = absurd (cc e)
  each_heard a b n (l ∷ ls) (m ∷ ms) left right known e =
      let same = heads_same e in
      let calls : site sites (place_of things l.call.0) ≡ m.call.0 = sym (ap (λ x. x.call.0) same) in
      each (record {
        node = subst (λ i. Linked W i m.node.0) (sym left.0) (subst (λ i. Linked W a i) (sym right.0) n);
        kind = sym (ap (λ x. x.kind) same);
        call = subst (λ i. Named W l.call.0 i) calls (named_site s h things sites walk is.count l.call.0 (known l.call.0 (head_in l.call.0 (calls_links ls))));
        capture = sym (ap (λ x. x.capture) same);
      })
      (each_heard a b n ls ms left.1 right.1 (λ j i. known j (tail_in j l.call.0 (calls_links ls) i)) (tails_same e))

  listeners_rel : (a b : ℕ) → Linked W a b → Each (ListenerRel W) (heard_at a s.host.listeners) (heard_at b g.listeners)
  listeners_rel a b l =
      let x = nodes_are a b l in
      let up = parent_links s.host.objects (parent_at s.host.nodes a) in
      let down = nodes_links s.host.objects (children_at s.host.nodes a) in
      let calls = calls_links (heard_at a s.host.listeners) in
      each_heard a b l (heard_at a s.host.listeners) (heard_at b g.listeners) (heard_there a s.host.listeners) (heard_there b g.listeners)
      (λ j i. links_known x j (among_right j up (down ++ calls) (among_right j down calls i)))
      (ap (λ n. n.listeners) (node_told x))

  -- ---- parents

  record FoundRight (a : ℕ) (ds : List NodeId) : Type 0 where
    node : NodeId
    linked : Linked W a node.0
    there : has node.0 ds ≡ true

  found_right : (a : ℕ) {cs ds : List NodeId} → Each (NodeIds (Linked W)) cs ds → has a cs ≡ true → FoundRight a ds
  found_right a no_more i = absurd (cc i)
  found_right a (each {a = k} {b = d} {xs = cs} {ys = ds} x xs) i = by (or_cases (nat_eq a k.0) (has a cs) i) (λ j. found_right a xs j)
    where
      by : (nat_eq a k.0 ≡ true) ⊎ (has a cs ≡ true) → (has a cs ≡ true → FoundRight a ds) → FoundRight a (d ∷ ds)
      by (inl e) later = record { node = d; linked = subst (λ n. Linked W n d.0) (sym (eqb-true a k.0 e)) x.linked; there = has_head d ds }
      by (inr j) later = let f = later j in record { node = f.node; linked = f.linked; there = has_tail f.node d ds f.there }

  record FoundLeft (b : ℕ) (cs : List NodeId) : Type 0 where
    node : NodeId
    linked : Linked W node.0 b
    there : has node.0 cs ≡ true

  found_left : (b : ℕ) {cs ds : List NodeId} → Each (NodeIds (Linked W)) cs ds → has b ds ≡ true → FoundLeft b cs
  found_left b no_more i = absurd (cc i)
  found_left b (each {a = k} {b = d} {xs = cs} {ys = ds} x xs) i = by (or_cases (nat_eq b d.0) (has b ds) i) (λ j. found_left b xs j)
    where
      by : (nat_eq b d.0 ≡ true) ⊎ (has b ds ≡ true) → (has b ds ≡ true → FoundLeft b cs) → FoundLeft b (k ∷ cs)
      by (inl e) later = record { node = k; linked = subst (λ n. Linked W k.0 n) (sym (eqb-true b d.0 e)) x.linked; there = has_head k cs }
      by (inr j) later = let f = later j in record { node = f.node; linked = f.linked; there = has_tail f.node k cs f.there }

  document_there : (object_at h.objects document.0).class ≡ class.Node (nth_node 0)
  document_there = is.running.own.document.class

  record PartnerOf (p : ℕ) : Type 0 where
    node : ℕ
    linked : Linked W p node

  -- a node whose object is known is linked
  right_partner : (p : NodeId) → p.0 < length s.host.nodes → IsKnown things (object_of_node s.host.objects p).0 → PartnerOf p.0
  right_partner p there known = by known
    where
      k : ℕ
      k = (object_of_node s.host.objects p).0

      left : (object_at s.heap.objects k).class ≡ class.Node p
      left = still.shaped.host.object_of p.0 there

      low : k < first_thing → (k < built_in_count) ⊎ (built_in_count ≤ k) → PartnerOf p.0
      low small (inl built) = absurd (built_in_is_no_node s still k p built left)
      low small (inr past) =
          let same : k ≡ document.0 = omega (arith, small, past) in
          record {
            node = 0;
            linked = record {
              named = nodes_paired s.heap.objects h.objects (document.0 ∷ things) (document.0 ∷ sites) 0 (omega arith) (ap suc is.count) p (nth_node 0)
                  (ap (λ j. (object_at s.heap.objects j).class) (sym same) ∙ left) document_there;
            };
          }

      by : IsKnown things k → PartnerOf p.0
      by (inl small) = low small (cases_lt k built_in_count)
      by (inr found) =
          let t = thing_at things sites k found in
          let one : (object_at s.heap.objects (nth things t.place)).class ≡ class.Node p = ap (λ j. (object_at s.heap.objects j).class) (sym t.one) ∙ left in
          let q = node_on_right (is.each t.place t.below).class p one in
          record {
            node = q.node.0;
            linked = record {
              named = nodes_paired s.heap.objects h.objects (document.0 ∷ things) (document.0 ∷ sites) (suc t.place) (omega (arith, t.below)) (ap suc is.count) p q.node
                  one q.is;
            };
          }

  record PartnerTo (q : ℕ) : Type 0 where
    node : ℕ
    linked : Linked W node q

  -- so is one on the right whose object is that of the document or of a thing
  left_partner : (q : NodeId) → q.0 < length g.nodes → is_in (object_of_node g.objects q).0 (document.0 ∷ sites) ≡ true → PartnerTo q.0
  left_partner q inside i = by (or_cases (nat_eq j document.0) (is_in j sites) i)
    where
      j : ℕ
      j = (object_of_node g.objects q).0

      right : (object_at h.objects j).class ≡ class.Node q
      right = is.hosting.objects q.0 inside

      by : (nat_eq j document.0 ≡ true) ⊎ (is_in j sites ≡ true) → PartnerTo q.0
      by (inl e) =
          let same : j ≡ document.0 = eqb-true j document.0 e in
          let two : (object_at h.objects document.0).class ≡ class.Node q = ap (λ k. (object_at h.objects k).class) (sym same) ∙ right in
          let one : (object_at s.heap.objects document.0).class ≡ class.Node (nth_node 0) = document_class s still in
          record {
            node = 0;
            linked = record { named = nodes_paired s.heap.objects h.objects (document.0 ∷ things) (document.0 ∷ sites) 0 (omega arith) (ap suc is.count) (nth_node 0) q one two };
          }
      by (inr found) =
          let t = thing_at sites sites j found in
          let below : t.place < length things = subst (λ n. t.place < n) is.count t.below in
          let two : (object_at h.objects (nth sites t.place)).class ≡ class.Node q = ap (λ k. (object_at h.objects k).class) (sym t.one) ∙ right in
          let p = node_on_left (is.each t.place below).class q two in
          record {
            node = p.node.0;
            linked = record {
              named = nodes_paired s.heap.objects h.objects (document.0 ∷ things) (document.0 ∷ sites) (suc t.place) (omega (arith, below)) (ap suc is.count) p.node q
                  p.is two;
            };
          }

  parent_to_right : (a b : ℕ) → Linked W a b → (p : NodeId) → parent_at s.host.nodes a ≡ Some p → Maybe (NodeIds (Linked W)) (Some p) (parent_at g.nodes b)
  parent_to_right a b l p up =
      let x = nodes_are a b l in
      let trees = still.shaped.host.sound.nodes.trees in
      let k : ℕ = (object_of_node s.host.objects p).0 in
      let rest : List ℕ = nodes_links s.host.objects (children_at s.host.nodes a) ++ calls_links (heard_at a s.host.listeners) in
      let among : is_in k (parent_links s.host.objects (parent_at s.host.nodes a)) ≡ true =
      subst (λ o. is_in k (parent_links s.host.objects o) ≡ true) (sym up) (head_in k [])
      in
      let known : IsKnown things k = links_known x k (among_left k (parent_links s.host.objects (parent_at s.host.nodes a)) rest among) in
      let q = right_partner p (parent_in s.host.nodes trees a p up) known in
      let f = found_right a (children_rel p.0 q.node q.linked) (child_of_parent s.host.nodes trees a p up) in
      let same : b ≡ f.node.0 = eqb-true b f.node.0 (sym (one_to_one a b a f.node.0 l f.linked) ∙ eq-eqb a a refl) in
      let there : has b (children_at g.nodes q.node) ≡ true = subst (λ n. has n (children_at g.nodes q.node) ≡ true) (sym same) f.there in
      let parent : parent_at g.nodes b ≡ Some (nth_node q.node) = parent_of_child g.nodes is.hosting.sound.nodes.trees q.node b there in
      subst (λ o. Maybe (NodeIds (Linked W)) (Some p) o) (sym parent) (some (record { linked = q.linked }))

  no_parent_right : (a b : ℕ) → Linked W a b → parent_at s.host.nodes a ≡ None → (q : NodeId) → parent_at g.nodes b ≡ Some q → ⊥
  no_parent_right a b l none_up q up = by (nodes_are a b l).to
    where
      x : AreNodes a b
      x = nodes_are a b l

      sound : (n : ℕ) → parent_at g.nodes n ≡ Some q → n ≡ 0 → ⊥
      sound n e first = let bad : None ≡ Some q = sym is.hosting.sound.nodes.root ∙ ap (parent_at g.nodes) (sym first) ∙ e in absurd (cc bad)

      by : (x.two ≡ document.0) ⊎ (is_in x.two sites ≡ true) → ⊥
      by (inl same) = sound b up (node_same (sym x.right ∙ ap (λ n. (object_at h.objects n).class) same ∙ document_there))
      by (inr found) =
          let trees = is.hosting.sound.nodes.trees in
          let mine : is_in (object_of_node g.objects (nth_node b)).0 sites ≡ true = subst (λ n. is_in n sites ≡ true) (sym (right_place x)) found in
          let p = left_partner q (parent_in g.nodes trees b q up) (is.parents (nth_node b) q mine up) in
          let f = found_left b (children_rel p.node q.0 p.linked) (child_of_parent g.nodes trees b q up) in
          let same : a ≡ f.node.0 = eqb-true a f.node.0 (one_to_one a b f.node.0 b l f.linked ∙ eq-eqb b b refl) in
          let there : has a (children_at s.host.nodes p.node) ≡ true = subst (λ n. has n (children_at s.host.nodes p.node) ≡ true) (sym same) f.there in
          let parent : parent_at s.host.nodes a ≡ Some (nth_node p.node) = parent_of_child s.host.nodes still.shaped.host.sound.nodes.trees p.node a there in
          let bad : None ≡ Some (nth_node p.node) = sym none_up ∙ parent in
          absurd (cc bad)

  parent_rel : (a b : ℕ) → Linked W a b → Maybe (NodeIds (Linked W)) (parent_at s.host.nodes a) (parent_at g.nodes b)
  parent_rel a b l = by (parent_at s.host.nodes a) refl (parent_at g.nodes b) refl
    where
      by : (o : Option NodeId) → parent_at s.host.nodes a ≡ o → (p : Option NodeId) → parent_at g.nodes b ≡ p → Maybe (NodeIds (Linked W)) o p
      by (Some p) up r e = subst (λ q. Maybe (NodeIds (Linked W)) (Some p) q) e (parent_to_right a b l p up)
      by None up None e = none
      by None up (Some q) e = absurd (no_parent_right a b l up q e)

  -- ---- the hosts

  pub document_linked : Linked (rebuilt_world s h things sites) 0 0
  document_linked = record {
    named = nodes_paired s.heap.objects h.objects (document.0 ∷ things) (document.0 ∷ sites) 0 (omega arith) (ap suc is.count) (nth_node 0) (nth_node 0)
        (document_class s still) document_there;
  }

  node_rel : (a b : ℕ) → Linked W a b → NodeRel (Linked W) (node_at s.host.nodes a) (node_at g.nodes b)
  node_rel a b l = record { content = content_same (nodes_are a b l); parent = parent_rel a b l; children = children_rel a b l }

  nodes_rel : NodesRel (Linked W) s.host.nodes g.nodes
  nodes_rel = record { at = node_rel; inside = both_there; same = one_to_one; document = document_linked }

  timers_rel : TimersRel (Named W) (clocks_of W) s.host.timers g.timers
  timers_rel =
      let calls : (t : Live) → IsIn s.host.timers t → Named W t.call.0 (sited sites (moved things t.call)).0 =
      λ t i. named_site s h things sites walk is.count t.call.0 (roots_in_walk s things still walk t.call.0 (timers_among s t.call.0 (timer_in s.host.timers t i)))
      in
      subst (λ us. TimersRel (Named W) (clocks_of W) s.host.timers us) (same_timers things sites s.host.clock s.host.timers ∙ sym is.timers)
      (rebuilt_timers_agree W _ s.host.clock (λ at. sited sites (moved things at)) s.host.timers calls still.shaped.host.sound.timely)

  pub hosts_rel : HostRel (clocks_of (rebuilt_world s h things sites)) (rebuilt_world s h things sites) s.host g
  hosts_rel = record {
    nodes = nodes_rel;
    left = record { trees = still.shaped.host.sound.nodes.trees; objects = still.shaped.host.sound.objects; listeners = still.shaped.host.sound.inside };
    right = record { trees = is.hosting.sound.nodes.trees; objects = is.hosting.sound.objects; listeners = is.hosting.sound.inside };
    objects = objects_named;
    listeners = listeners_rel;
    timers = timers_rel;
    clock = record { apart = let none = is.hosting.clock in omega (arith, none) };
  }
