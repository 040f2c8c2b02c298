-- What the hosts of two pages keep corresponds where it is equal when it is named by places.
use Rattle.std.proofs.Common.{◌≡◌, ap, ℕ, ◌<◌, true, List, [], ◌∷◌, length}
use Rattle.dom_tree.proofs.Callers.{has_head, has_tail}
use Rattle.dom_tree.specs.Node.{has}
use Rattle.heap_relations.specs.Related.{Each, each, no_more}
use Rattle.heap_walker.specs.Things.{calls_links, nodes_links, timers_links}
use Rattle.host_relations.specs.Nodes.{NodeIds}
use Rattle.js_values.specs.declared.ids.NodeId.{NodeId}
use Rattle.page_host.specs.Host.{object_of_node}
use Rattle.page_host.specs.declared.listener.Listener.{Listener}
use Rattle.page_meaning.specs.Store.{Store}
use Rattle.rebuild_plan.specs.Compact.{place_of}
use Rattle.rebuild_plan.specs.Nodes.{moved_listeners, moved_nodes}
use Rattle.rebuild_plan.specs.Timers.{moved_timers}
use Rattle.rebuilding.proofs.Callers.{AreKnown, IsKnown, head_in, heads_same, tail_in, tails_same}
use Rattle.timer_queue.specs.declared.timer.Live.{Live}
use Rattle.page_agreement.specs.Agree.{Corresponds, ListenersCorrespond, NodesCorrespond, TimersCorrespond, pairs}

module _ (s t : Store) (ks js : List ℕ)
    (same_place : (a b : ℕ) → IsKnown ks a → IsKnown js b → place_of ks a ≡ place_of js b → Corresponds (pairs ks js) a b) where
  pub nodes_rel : (cs ds : List NodeId) → ((n : ℕ) → has n cs ≡ true → n < length s.host.nodes) → ((n : ℕ) → has n ds ≡ true → n < length t.host.nodes)
      → moved_nodes ks s.host.objects cs ≡ moved_nodes js t.host.objects ds → AreKnown ks (nodes_links s.host.objects cs)
      → AreKnown js (nodes_links t.host.objects ds) → Each (NodeIds (NodesCorrespond (pairs ks js) s t)) cs ds
  nodes_rel [] [] there inside e one two = no_more
  nodes_rel [] (d ∷ ds) there inside e one two = absurd (cc e)
  nodes_rel (c ∷ cs) [] there inside e one two = absurd (cc e)
  nodes_rel (c ∷ cs) (d ∷ ds) there inside e one two =
      let a : ℕ = (object_of_node s.host.objects c).0 in
      let b : ℕ = (object_of_node t.host.objects d).0 in
      let xs : List ℕ = nodes_links s.host.objects cs in
      let ys : List ℕ = nodes_links t.host.objects ds in
      each (record {
        linked = record {
          one = there c.0 (has_head c cs);
          two = inside d.0 (has_head d ds);
          objects = same_place a b (one a (head_in a xs)) (two b (head_in b ys)) (ap (λ o. o.0) (heads_same e));
        };
      })
      (nodes_rel cs ds (λ n i. there n (has_tail (record { 0 = n }) c cs i)) (λ n i. inside n (has_tail (record { 0 = n }) d ds i)) (tails_same e)
      (λ j i. one j (tail_in j a xs i)) (λ j i. two j (tail_in j b ys i)))

  pub listeners_rel : (ls ms : List Listener) → moved_listeners ks ls ≡ moved_listeners js ms → AreKnown ks (calls_links ls) → AreKnown js (calls_links ms)
      → Each (ListenersCorrespond (pairs ks js)) ls ms
  listeners_rel [] [] e one two = no_more
  listeners_rel [] (k ∷ ms) e one two = absurd (cc e)
  listeners_rel (l ∷ ls) [] e one two = absurd (cc e)
  listeners_rel (l ∷ ls) (k ∷ ms) e one two =
      let xs : List ℕ = calls_links ls in
      let ys : List ℕ = calls_links ms in
      each (record {
        kind = ap (λ x. x.kind) (heads_same e);
        call = same_place l.call.0 k.call.0 (one l.call.0 (head_in l.call.0 xs)) (two k.call.0 (head_in k.call.0 ys)) (ap (λ x. x.call.0) (heads_same e));
        capture = ap (λ x. x.capture) (heads_same e);
      })
      (listeners_rel ls ms (tails_same e) (λ j i. one j (tail_in j l.call.0 xs i)) (λ j i. two j (tail_in j k.call.0 ys i)))

  pub timers_rel : (us vs : List Live) → moved_timers ks s.host.clock us ≡ moved_timers js t.host.clock vs → AreKnown ks (timers_links us)
      → AreKnown js (timers_links vs) → Each (TimersCorrespond (pairs ks js) s t) us vs
  timers_rel [] [] e one two = no_more
  timers_rel [] (v ∷ vs) e one two = absurd (cc e)
  timers_rel (u ∷ us) [] e one two = absurd (cc e)
  timers_rel (u ∷ us) (v ∷ vs) e one two =
      let xs : List ℕ = timers_links us in
      let ys : List ℕ = timers_links vs in
      each (record {
        id = ap (λ x. x.id) (heads_same e);
        rest = ap (λ x. x.due) (heads_same e);
        period = ap (λ x. x.period) (heads_same e);
        call = same_place u.call.0 v.call.0 (one u.call.0 (head_in u.call.0 xs)) (two v.call.0 (head_in v.call.0 ys)) (ap (λ x. x.call.0) (heads_same e));
      })
      (timers_rel us vs (tails_same e) (λ j i. one j (tail_in j u.call.0 xs i)) (λ j i. two j (tail_in j v.call.0 ys i)))
