-- The hosts of two pages at rest that agree mean the same.
use Rattle.std.proofs.Common.{◌≡◌, ◌⊎◌, inl, inr, refl, sym, ap, subst, ◌∙◌, ℕ, ◌<◌, ◌≤◌, nat_eq, List, length, arith}
use Rattle.std.proofs.lemmas.Bool.{cases_eq, eq-eqb, eqb-true, ne_eqb}
use Rattle.agreement.specs.Acts.{clocks_of}
use Rattle.dom_tree.specs.Node.{node_at}
use Rattle.heap_relations.proofs.Callers.{each_map}
use Rattle.heap_relations.specs.Naming.{Named, Pair, World}
use Rattle.heap_relations.specs.Related.{Each, each, no_more}
use Rattle.heap_walker.specs.Still.{Still}
use Rattle.heap_walker.specs.Things.{heard_at}
use Rattle.host_relations.proofs.Callers.{AreOf, heard_of}
use Rattle.host_relations.specs.Hosts.{HostRel, ListenerRel}
use Rattle.host_relations.specs.Linked.{Linked}
use Rattle.host_relations.specs.Nodes.{NodeIds, NodeRel, NodesRel}
use Rattle.host_relations.specs.Timers.{TimersRel}
use Rattle.js_values.specs.declared.ids.NodeId.{NodeId}
use Rattle.object_heap.specs.Chain.{object_at}
use Rattle.page_host.specs.Host.{object_of_node}
use Rattle.page_host.specs.declared.listener.Listener.{Listener}
use Rattle.page_meaning.specs.Places.{document}
use Rattle.page_meaning.specs.Store.{Store}
use Rattle.rebuild_plan.proofs.Callers.{document_inside}
use Rattle.timer_queue.specs.Timers.{IsIn}
use Rattle.timer_queue.specs.declared.timer.Live.{Live}
use Rattle.page_agreement.proofs.Mapped.{maybe_map}
use Rattle.page_agreement.proofs.Pairs.{all_pairs, correspond_apart, corresponding, paired}
use Rattle.page_agreement.proofs.World.{are_nodes, node_paired, pair_world}
use Rattle.page_agreement.specs.Agree.{Agree, AreReached, Corresponds, ListenersCorrespond, NodesCorrespond, TimersCorrespond, built_in, firsts, seconds}
use Rattle.rebuilding.proofs.Callers.{node_same}

abbrev nth_node : ℕ → NodeId
nth_node n = record { 0 = n }

module _ (m : List Pair) (s t : Store) (one : Still s) (two : Still t) where
  abbrev W : World
  W = pair_world s t m

  -- ---- what corresponds is named, and what is named corresponds

  pub name_up : (a b : ℕ) → Corresponds m a b → Named (pair_world s t m) a b
  name_up a b c = record { named = paired m a b c }

  pub name_back : (a b : ℕ) → Named (pair_world s t m) a b → Corresponds m a b
  name_back a b n = corresponding m a b n.named

  pub node_up : (a b : ℕ) → NodesCorrespond m s t a b → Linked (pair_world s t m) a b
  node_up a b h =
      let k : ℕ = (object_of_node s.host.objects (nth_node a)).0 in
      let j : ℕ = (object_of_node t.host.objects (nth_node b)).0 in
      record {
        named = node_paired s.heap.objects t.heap.objects (all_pairs m) k j (nth_node a) (nth_node b) (paired m k j h.objects)
            (one.shaped.host.object_of a h.one) (two.shaped.host.object_of b h.two);
      }

  pub node_back : (a b : ℕ) → Linked (pair_world s t m) a b → NodesCorrespond m s t a b
  node_back a b l =
      let p = are_nodes s.heap.objects t.heap.objects (all_pairs m) a b l.named in
      let x = one.shaped.host.node_of p.one a p.are.one in
      let y = two.shaped.host.node_of p.two b p.are.two in
      record {
        one = x.0;
        two = y.0;
        objects = subst (λ k. Corresponds m k (object_of_node t.host.objects (nth_node b)).0) (sym (ap (λ at. at.0) x.1))
            (subst (λ j. Corresponds m p.one j) (sym (ap (λ at. at.0) y.1)) (corresponding m p.one p.two p.among));
      }

  -- two nodes with one object are one
  one_node : (s : Store) → Still s → (a c : ℕ) → a < length s.host.nodes → c < length s.host.nodes
      → (object_of_node s.host.objects (nth_node a)).0 ≡ (object_of_node s.host.objects (nth_node c)).0 → a ≡ c
  one_node s still a c first second same =
      node_same (sym (still.shaped.host.object_of a first) ∙ ap (λ n. (object_at s.heap.objects n).class) same ∙ still.shaped.host.object_of c second)

  module _ (left : AreReached s (firsts m)) (right : AreReached t (seconds m)) where
    pub nodes_apart : (a b c d : ℕ) → NodesCorrespond m s t a b → NodesCorrespond m s t c d → nat_eq a c ≡ nat_eq b d
    nodes_apart a b c d x y = by (cases_eq a c)
      where
        ones : ℕ → ℕ
        ones n = (object_of_node s.host.objects (nth_node n)).0

        twos : ℕ → ℕ
        twos n = (object_of_node t.host.objects (nth_node n)).0

        places : nat_eq (ones a) (ones c) ≡ nat_eq (twos b) (twos d)
        places = correspond_apart m s t left right (ones a) (twos b) (ones c) (twos d) x.objects y.objects

        by : (a ≡ c) ⊎ (a ≡ c → ⊥) → nat_eq a c ≡ nat_eq b d
        by (inl same) =
            let equal : twos b ≡ twos d = eqb-true (twos b) (twos d) (sym places ∙ eq-eqb (ones a) (ones c) (ap ones same)) in
            eq-eqb a c same ∙ sym (eq-eqb b d (one_node t two b d x.two y.two equal))
        by (inr other) =
            ne_eqb a c other
            ∙ sym (ne_eqb b d (λ same.
            let equal : ones a ≡ ones c = eqb-true (ones a) (ones c) (places ∙ eq-eqb (twos b) (twos d) (ap twos same)) in
            other (one_node s one a c x.one y.one equal)))

  module _ (agree : Agree m s t) where
    -- ---- nodes

    node_rel : (a b : ℕ) → Linked W a b → NodeRel (Linked W) (node_at s.host.nodes a) (node_at t.host.nodes b)
    node_rel a b l =
        let h = agree.nodes a b (node_back a b l) in
        let up : (c d : NodeId) → NodeIds (NodesCorrespond m s t) c d → NodeIds (Linked W) c d = λ c d i. record { linked = node_up c.0 d.0 i.linked } in
        record { content = h.content; parent = maybe_map up h.parent; children = each_map up h.children }

    both_there : (a b : ℕ) → Linked W a b → (a < length s.host.nodes) × (b < length t.host.nodes)
    both_there a b l = let h = node_back a b l in (h.one, h.two)

    pub document_linked : Linked (pair_world s t m) 0 0
    document_linked =
        let left : (object_of_node s.host.objects (nth_node 0)).0 ≡ document.0 = ap (λ at. at.0) one.shaped.host.document in
        let right : (object_of_node t.host.objects (nth_node 0)).0 ≡ document.0 = ap (λ at. at.0) two.shaped.host.document in
        node_up 0 0 (record {
          one = document_inside s one;
          two = document_inside t two;
          objects = built_in (left ∙ sym right) (omega (arith, left));
        })

    nodes_rel : NodesRel (Linked W) s.host.nodes t.host.nodes
    nodes_rel = record { at = node_rel; inside = both_there; same = λ a b c d l k. nodes_apart agree.left agree.right a b c d (node_back a b l) (node_back c d k); document = document_linked }

    -- ---- listeners

    each_heard : (a b : ℕ) → Linked W a b → (ls ks : List Listener) → AreOf a ls → AreOf b ks → Each (ListenersCorrespond m) ls ks → Each (ListenerRel W) ls ks
    each_heard a b n _ _ left right no_more = no_more
    each_heard a b n _ _ left right (each {a = l} {b = k} {xs = ls} {ys = ks} h hs) =
        each (record {
          node = subst (λ i. Linked W i k.node.0) (sym left.0) (subst (λ i. Linked W a i) (sym right.0) n);
          kind = h.kind;
          call = name_up l.call.0 k.call.0 h.call;
          capture = h.capture;
        })
        (each_heard a b n ls ks left.1 right.1 hs)

    listeners_rel : (a b : ℕ) → Linked W a b → Each (ListenerRel W) (heard_at a s.host.listeners) (heard_at b t.host.listeners)
    listeners_rel a b l =
        each_heard a b l (heard_at a s.host.listeners) (heard_at b t.host.listeners) (heard_of a s.host.listeners) (heard_of b t.host.listeners)
        (agree.listeners a b (node_back a b l))

    -- ---- timers

    each_timer : (xs ys : List Live) → ((x : Live) → IsIn xs x → s.host.clock ≤ x.due) → ((y : Live) → IsIn ys y → t.host.clock ≤ y.due)
        → Each (TimersCorrespond m s t) xs ys → TimersRel (Named W) (clocks_of W) xs ys
    each_timer _ _ ahead past no_more = no_more
    each_timer _ _ ahead past (each {a = x} {b = y} {xs = xs} {ys = ys} h hs) =
        each (record {
          id = h.id;
          due = record { apart = omega (arith, h.rest, ahead x (inl refl), past y (inl refl)) };
          period = h.period;
          call = name_up x.call.0 y.call.0 h.call;
        })
        (each_timer xs ys (λ z i. ahead z (inr i)) (λ z i. past z (inr i)) hs)

    pub hosts_rel : HostRel (clocks_of (pair_world s t m)) (pair_world s t m) s.host t.host
    hosts_rel = record {
      nodes = nodes_rel;
      left = record { trees = one.shaped.host.sound.nodes.trees; objects = one.shaped.host.sound.objects; listeners = one.shaped.host.sound.inside };
      right = record { trees = two.shaped.host.sound.nodes.trees; objects = two.shaped.host.sound.objects; listeners = two.shaped.host.sound.inside };
      objects = λ a b l. name_up (object_of_node s.host.objects a).0 (object_of_node t.host.objects b).0 (node_back a.0 b.0 l).objects;
      listeners = listeners_rel;
      timers = each_timer s.host.timers t.host.timers (λ x i. (one.shaped.host.sound.timely x i).ahead) (λ y i. (two.shaped.host.sound.timely y i).ahead) agree.timers;
      clock = record { apart = omega arith };
    }
