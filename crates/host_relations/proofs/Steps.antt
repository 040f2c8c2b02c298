-- What is done to the hosts of two pages that mean the same.
use Rattle.std.proofs.Common.{◌≡◌, refl, sym, subst, ◌∙◌, ℕ, ◌<◌, max, not, ◌++◌, [], Bool, true, false, if◌then◌else◌, length, is_none, List, ◌∷◌, Option, arith}
use Rattle.std.proofs.lemmas.List.Elements.{All-filter, All-push}
use Rattle.std.specs.List.{All}
use Rattle.dom_tree.proofs.Callers.{steps_stay_sound}
use Rattle.dom_tree.specs.Laws.{Stays}
use Rattle.dom_tree.specs.Node.{Nodes}
use Rattle.dom_tree.specs.Steps.{NodeStep, after_node}
use Rattle.js_values.specs.declared.ids.ObjId.{ObjId}
use Rattle.timer_queue.specs.Timers.{due_timers}
use Rattle.timer_queue.specs.declared.timer.Live.{Live}
use Rattle.page_host.specs.declared.listener.Listener.{Listener}
use Rattle.page_host.specs.Host.{Host}
use Rattle.page_host.specs.Listeners.{is_registered, is_same_listener, with_listener}
use Rattle.page_host.specs.Steps.{HostStep, after_firing, after_fit, after_host, is_fit, may_be_set, next_timer}
use Rattle.heap_relations.specs.Naming.{Named, World, named}
use Rattle.heap_relations.specs.Related.{IsOneToOne, Maybe, none, some}
use Rattle.host_relations.proofs.Hearing.{forgetting_rel, listening_rel}
use Rattle.host_relations.proofs.NodeSteps.{both_there, node_step_rel}
use Rattle.host_relations.proofs.TimersKept.{clears, due, firsts, lengths, same_order, starts, takes}
use Rattle.host_relations.specs.HostLaws.{StepsKeep}
use Rattle.host_relations.specs.Hosts.{HostRel, IsOrderly, StepRel, clears_rel, clock_rel, fires_rel, forgets_rel, listens_rel, nodes_rel, starts_rel}
use Rattle.host_relations.specs.Linked.{Linked}
use Rattle.host_relations.specs.NodeSteps.{NodeStepRel, drops_attribute_rel, empties_rel, inserts_rel, replaces_rel, sets_attribute_rel, sets_text_rel, sets_value_rel, takes_out_rel}
use Rattle.host_relations.specs.Timers.{Clocks, MomentRel, TimerRel}

-- ---- one host

orderly_nodes : (t : Nodes) (objects : List ObjId) (ls : List Listener) (s : NodeStep) → IsOrderly t objects ls → IsOrderly (after_node t s) objects ls
orderly_nodes t objects ls s o = let kept : Stays t s = steps_stay_sound t s in record {
  trees = kept.trees o.trees;
  objects = o.objects ∙ sym kept.long;
  listeners = subst (λ n. All (λ l. l.node.0 < n) ls) (sym kept.long) o.listeners;
}

-- a listener of a node that is there
heard_there : (n : ℕ) (ls : List Listener) (l : Listener) → l.node.0 < n → All (λ m. m.node.0 < n) ls → All (λ m. m.node.0 < n) (with_listener ls l)
heard_there n ls l low all = by (is_registered ls l)
  where
    by : (b : Bool) → All (λ m. m.node.0 < n) (if b then ls else ls ++ l ∷ [])
    by true = all
    by false = All-push (λ m. m.node.0 < n) ls l all low

-- ---- whether it fits

set_same : (W : World) (s r : NodeStep) → NodeStepRel W s r → may_be_set s ≡ may_be_set r
set_same W _ _ (inserts_rel h k m) = refl
set_same W _ _ (replaces_rel h k m) = refl
set_same W _ _ (takes_out_rel h) = refl
set_same W _ _ (empties_rel h) = refl
set_same W _ _ (sets_text_rel h) = refl
set_same W _ _ (sets_value_rel h) = refl
set_same W _ _ (sets_attribute_rel h) = refl
set_same W _ _ (drops_attribute_rel h) = refl

none_same : (R : Live → Live → Type 0) (o p : Option Live) → Maybe R o p → is_none o ≡ is_none p
none_same R _ _ none = refl
none_same R _ _ (some h) = refl

max_rel : (c : Clocks) (a b m n : ℕ) → MomentRel c a b → MomentRel c m n → MomentRel c (max a m) (max b n)
max_rel c a b m n h k = record { apart = let e = h.apart in let f = k.apart in omega (arith, e, f) }

module _ (c : Clocks) (W : World) (h g : Host) (one : IsOneToOne (named W)) (q : HostRel c W h g) where
  pub next_rel : (m n : ℕ) → MomentRel c m n → Maybe (TimerRel (Named W) c) (next_timer h m) (next_timer g n)
  next_rel m n k = firsts (Named W) c (due_timers h.timers m) (due_timers g.timers n) (due (Named W) c h.timers g.timers m n k q.timers)

  fit_same : (s r : HostStep) → StepRel c W s r → is_fit h s ≡ is_fit g r
  fit_same _ _ (nodes_rel {s = s} {r = r} k) = set_same W s r k
  fit_same _ _ (listens_rel {l = l} {m = m} k) = let there = both_there (Linked W) h.nodes g.nodes l.node m.node q.nodes k.node in rw (there.0, there.1) refl
  fit_same _ _ (forgets_rel k) = refl
  fit_same _ _ (starts_rel k) = rw (lengths (Named W) c h.timers g.timers q.timers) refl
  fit_same _ _ clears_rel = refl
  fit_same _ _ (fires_rel k) = refl
  fit_same _ _ (clock_rel {m = m} {n = n} k) =
      rw (same_order c h.clock g.clock m n q.clock k, none_same (TimerRel (Named W) c) (next_timer h m) (next_timer g n) (next_rel m n k)) refl

  -- ---- what is done where it fits

  fired : (o p : Option Live) → Maybe (TimerRel (Named W) c) o p → HostRel c W (after_firing h o) (after_firing g p)
  fired _ _ none = q
  fired _ _ (some {a = t} {b = u} k) = record {
    nodes = q.nodes;
    left = q.left;
    right = q.right;
    objects = q.objects;
    listeners = q.listeners;
    timers = takes (Named W) c h.timers g.timers t u q.timers k;
    clock = max_rel c h.clock g.clock t.due u.due q.clock k.due;
  }

  fitted : (s r : HostStep) → StepRel c W s r → HostRel c W (after_fit h s) (after_fit g r)
  fitted _ _ (nodes_rel {s = s} {r = r} k) = record {
    nodes = node_step_rel W h.nodes g.nodes q.nodes q.left.trees q.right.trees s r k;
    left = orderly_nodes h.nodes h.objects h.listeners s q.left;
    right = orderly_nodes g.nodes g.objects g.listeners r q.right;
    objects = q.objects;
    listeners = q.listeners;
    timers = q.timers;
    clock = q.clock;
  }
  fitted _ _ (listens_rel {l = l} {m = m} k) = let inside = q.nodes.inside l.node.0 m.node.0 k.node in record {
    nodes = q.nodes;
    left = record { trees = q.left.trees; objects = q.left.objects; listeners = heard_there (length h.nodes) h.listeners l inside.0 q.left.listeners };
    right = record { trees = q.right.trees; objects = q.right.objects; listeners = heard_there (length g.nodes) g.listeners m inside.1 q.right.listeners };
    objects = q.objects;
    listeners = listening_rel W one.same q.nodes.same l m h.listeners g.listeners k q.listeners;
    timers = q.timers;
    clock = q.clock;
  }
  fitted _ _ (forgets_rel {l = l} {m = m} k) = record {
    nodes = q.nodes;
    left = record {
      trees = q.left.trees;
      objects = q.left.objects;
      listeners = All-filter (λ x. not (is_same_listener l x)) (λ x. x.node.0 < length h.nodes) h.listeners q.left.listeners;
    };
    right = record {
      trees = q.right.trees;
      objects = q.right.objects;
      listeners = All-filter (λ x. not (is_same_listener m x)) (λ x. x.node.0 < length g.nodes) g.listeners q.right.listeners;
    };
    objects = q.objects;
    listeners = forgetting_rel W one.same q.nodes.same l m h.listeners g.listeners k q.listeners;
    timers = q.timers;
    clock = q.clock;
  }
  fitted _ _ (starts_rel {delay = delay} {period = period} {k = x} {l = y} k) = record {
    nodes = q.nodes;
    left = q.left;
    right = q.right;
    objects = q.objects;
    listeners = q.listeners;
    timers = starts (Named W) c h.timers g.timers h.clock g.clock delay period x y q.timers q.clock k;
    clock = q.clock;
  }
  fitted _ _ (clears_rel {id = id}) = record {
    nodes = q.nodes;
    left = q.left;
    right = q.right;
    objects = q.objects;
    listeners = q.listeners;
    timers = clears (Named W) c h.timers g.timers id q.timers;
    clock = q.clock;
  }
  fitted _ _ (fires_rel {m = m} {n = n} k) = fired (next_timer h m) (next_timer g n) (next_rel m n k)
  fitted _ _ (clock_rel k) = record {
    nodes = q.nodes;
    left = q.left;
    right = q.right;
    objects = q.objects;
    listeners = q.listeners;
    timers = q.timers;
    clock = k;
  }

  step_rel : (s r : HostStep) → StepRel c W s r → HostRel c W (after_host h s) (after_host g r)
  step_rel s r k = by (is_fit h s) (is_fit g r) (fit_same s r k)
    where
      by : (x y : Bool) → x ≡ y → HostRel c W (if x then after_fit h s else h) (if y then after_fit g r else g)
      by true true e = fitted s r k
      by false false e = q
      by true false e = absurd (cc)
      by false true e = absurd (cc)

pub steps_keep : StepsKeep
steps_keep c W h g s r one q k = (fit_same c W h g one q s r k, step_rel c W h g one q s r k)
