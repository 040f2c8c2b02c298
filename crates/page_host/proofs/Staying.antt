-- A host stays sound, whatever is done to it.
use Rattle.std.proofs.Common.{◌≡◌, ℕ, ◌<◌, ◌≤◌, Bool, true, false, ◌&&◌, not, List, [], ◌∷◌, ◌++◌, Option, Some, None, length, length-append, max, nat_le, nat_lt, if◌then◌else◌, refl, sym, subst, ◌∙◌, arith}
use Rattle.std.proofs.lemmas.Bool.{and_parts, not-true}
use Rattle.std.proofs.lemmas.Bool.Decides.{nat_tests}
use Rattle.std.proofs.lemmas.List.Elements.{All-filter, All-nil, All-push}
use Rattle.std.specs.List.{All}
use Rattle.std.specs.Option.{is_none}
use Rattle.js_values.specs.declared.ids.ObjId.{ObjId}
use Rattle.dom_tree.proofs.Callers.{new_nodes_stay_sound, steps_stay_sound}
use Rattle.dom_tree.specs.declared.content.Kind.{Kind}
use Rattle.dom_tree.specs.Content.{new_content}
use Rattle.dom_tree.specs.Node.{Nodes, is_document, with_new}
use Rattle.dom_tree.specs.Sound.{has_folded_name}
use Rattle.dom_tree.specs.Steps.{NodeStep, after_node}
use Rattle.timer_queue.proofs.Callers.{is_low, keeps_distinct_ids, timers_stay_timely}
use Rattle.timer_queue.specs.Laws.{HasDistinctIds}
use Rattle.timer_queue.specs.Timely.{AreTimely, IsPeriod}
use Rattle.timer_queue.specs.Timers.{after_first, timer_limit}
use Rattle.timer_queue.specs.declared.timer.Live.{Live}
use Rattle.page_host.specs.declared.listener.Listener.{Listener}
use Rattle.page_host.specs.Host.{Host, with_clock, with_listeners, with_node, with_nodes, with_timers}
use Rattle.page_host.specs.Listeners.{is_registered, is_same_listener, with_listener, without_listener}
use Rattle.page_host.specs.Sound.{AreDistinct, ArePlain, HostsStaySound, IsSound, NewHostsAreSound, NewNodesStayPlain, NewNodesStaySound, StepsStayPlain}
use Rattle.page_host.specs.Steps.{HostStep, after_firing, after_fit, clears, clock_at, fires, forgets, in_nodes, is_fit, is_period, listens, may_be_made, next_timer, starts, time_limit}
use Rattle.page_host.proofs.Plain.{new_plain, step_plain}
use Rattle.page_host.proofs.Registered.{distinct_left, distinct_with}

below : (a b : ℕ) → nat_lt a b ≡ true → a < b
below a b h = grind (arith, nat_tests)

nothing : {T : Type 0} (o : Option T) → is_none o ≡ true → o ≡ None
nothing None h = refl
nothing (Some x) h = cc

pub new_hosts_are_sound : NewHostsAreSound
new_hosts_are_sound t objects nodes long = record {
  nodes = nodes;
  objects = long;
  inside = All-nil (λ l. l.node.0 < length t);
  distinct = tt;
  ids = tt;
  timely = λ u h. absurd h;
}

-- listeners are of nodes that are there, of which there are no fewer
more_inside : (m n : ℕ) (ls : List Listener) → m ≤ n → All (λ l. l.node.0 < m) ls → All (λ l. l.node.0 < n) ls
more_inside m n ls h a = λ k d i. (let low = a k d i in omega (arith, h, low))

nodes_sound : (h : Host) (g : NodeStep) → IsSound h → IsSound (with_nodes h (after_node h.nodes g))
nodes_sound h g s =
    let stays = steps_stay_sound h.nodes g in
    let long : length (after_node h.nodes g) ≡ length h.nodes = stays.long in
    record {
      nodes = stays.sound s.nodes;
      objects = s.objects ∙ sym long;
      inside = more_inside (length h.nodes) (length (after_node h.nodes g)) h.listeners (omega (arith, long)) s.inside;
      distinct = s.distinct;
      ids = s.ids;
      timely = s.timely;
    }

with_inside : (n : ℕ) (ls : List Listener) (l : Listener) → l.node.0 < n → All (λ m. m.node.0 < n) ls → All (λ m. m.node.0 < n) (with_listener ls l)
with_inside n ls l h a = by (is_registered ls l)
  where
    by : (b : Bool) → All (λ m. m.node.0 < n) (if b then ls else ls ++ l ∷ [])
    by true = a
    by false = All-push (λ m. m.node.0 < n) ls l a h

listeners_sound : (h : Host) (ls : List Listener) → All (λ l. l.node.0 < length h.nodes) ls → AreDistinct ls → IsSound h → IsSound (with_listeners h ls)
listeners_sound h ls a d s = record {
  nodes = s.nodes;
  objects = s.objects;
  inside = a;
  distinct = d;
  ids = s.ids;
  timely = s.timely;
}

timers_sound : (h : Host) (ts : List Live) (now : ℕ) → HasDistinctIds ts → AreTimely time_limit now ts → IsSound h → IsSound (with_clock (with_timers h ts) now)
timers_sound h ts now i a s = record {
  nodes = s.nodes;
  objects = s.objects;
  inside = s.inside;
  distinct = s.distinct;
  ids = i;
  timely = a;
}

a_period : (p : Option ℕ) → is_period p ≡ true → IsPeriod time_limit p
a_period None h = tt
a_period (Some n) h = let e = and_parts (nat_le 1 n) (nat_le n time_limit) h in (is_low 1 n e.0, is_low n time_limit e.1)

firing_sound : (h : Host) (moment : ℕ) → IsSound h → (o : Option Live) → next_timer h moment ≡ o → IsSound (after_firing h o)
firing_sound h moment s None e = s
firing_sound h moment s (Some t) e =
    timers_sound h (after_first h.timers (Some t)) (max h.clock t.due)
    (subst (λ o. HasDistinctIds (after_first h.timers o)) e ((keeps_distinct_ids h.timers).takes moment s.ids))
    ((timers_stay_timely time_limit h.clock h.timers s.timely).fires moment t e) s

fit_sound : (h : Host) (g : HostStep) → is_fit h g ≡ true → IsSound h → IsSound (after_fit h g)
fit_sound h (in_nodes g) fit s = nodes_sound h g s
fit_sound h (listens l) fit s =
    listeners_sound h (with_listener h.listeners l) (with_inside (length h.nodes) h.listeners l (below l.node.0 (length h.nodes) fit) s.inside)
    (distinct_with h.listeners l s.distinct) s
fit_sound h (forgets l) fit s =
    listeners_sound h (without_listener h.listeners l) (All-filter (λ m. not (is_same_listener l m)) (λ m. m.node.0 < length h.nodes) h.listeners s.inside)
    (distinct_left (λ m. not (is_same_listener l m)) h.listeners s.distinct) s
fit_sound h (starts delay period f) fit s =
    let a = and_parts (nat_lt (length h.timers) timer_limit && nat_le delay time_limit) (is_period period) fit in
    let b = and_parts (nat_lt (length h.timers) timer_limit) (nat_le delay time_limit) a.0 in
    timers_sound h _ h.clock ((keeps_distinct_ids h.timers).starts h.clock delay period f s.ids)
    ((timers_stay_timely time_limit h.clock h.timers s.timely).starts delay period f (below (length h.timers) timer_limit b.0) (is_low delay time_limit b.1) (a_period period a.1)) s
fit_sound h (clears id) fit s =
    timers_sound h _ h.clock ((keeps_distinct_ids h.timers).clears id s.ids) ((timers_stay_timely time_limit h.clock h.timers s.timely).clears id) s
fit_sound h (fires moment) fit s = firing_sound h moment s (next_timer h moment) refl
fit_sound h (clock_at moment) fit s =
    let a = and_parts (nat_le h.clock moment) (is_none (next_timer h moment)) fit in
    timers_sound h h.timers moment s.ids
    ((timers_stay_timely time_limit h.clock h.timers s.timely).passes moment (is_low h.clock moment a.0) (nothing (next_timer h moment) a.1)) s

pub hosts_stay_sound : HostsStaySound
hosts_stay_sound h g s = by (is_fit h g) refl
  where
    by : (b : Bool) → is_fit h g ≡ b → IsSound (if b then after_fit h g else h)
    by true e = fit_sound h g e s
    by false e = s

made_sound : (h : Host) (k : Kind) (at : ObjId) → may_be_made k ≡ true → IsSound h → IsSound (with_node h (with_new h.nodes (new_content k)) at)
made_sound h k at fit s =
    let e = and_parts (has_folded_name k) (not (is_document k)) fit in
    record {
      nodes = (new_nodes_stay_sound h.nodes k).sound s.nodes e.0 (not-true (is_document k) e.1);
      objects = one_more h.objects h.nodes s.objects;
      inside = more_inside (length h.nodes) (length (with_new h.nodes (new_content k))) h.listeners (longer h.nodes) s.inside;
      distinct = s.distinct;
      ids = s.ids;
      timely = s.timely;
    }
  where
    longer : (t : Nodes) → length t ≤ length (with_new t (new_content k))
    longer t = grind (arith, length-append)

    one_more : (os : List ObjId) (t : Nodes) → length os ≡ length t → length (os ++ at ∷ []) ≡ length (with_new t (new_content k))
    one_more os t e = grind (arith, length-append)

pub new_nodes_stay : NewNodesStaySound
new_nodes_stay h k at s = by (may_be_made k) refl
  where
    by : (b : Bool) → may_be_made k ≡ b → IsSound (if b then with_node h (with_new h.nodes (new_content k)) at else h)
    by true e = made_sound h k at e s
    by false e = s

-- ---- attributes

fit_stays_plain : (h : Host) (g : HostStep) → is_fit h g ≡ true → ArePlain h.nodes → ArePlain (after_fit h g).nodes
fit_stays_plain h (in_nodes g) fit a = step_plain h.nodes g fit a
fit_stays_plain h (listens l) fit a = a
fit_stays_plain h (forgets l) fit a = a
fit_stays_plain h (starts delay period f) fit a = a
fit_stays_plain h (clears id) fit a = a
fit_stays_plain h (fires moment) fit a = a
fit_stays_plain h (clock_at moment) fit a = a

pub steps_stay_plain : StepsStayPlain
steps_stay_plain h g a = by (is_fit h g) refl
  where
    by : (b : Bool) → is_fit h g ≡ b → ArePlain (if b then after_fit h g else h).nodes
    by true e = fit_stays_plain h g e a
    by false e = a

pub new_nodes_stay_plain : NewNodesStayPlain
new_nodes_stay_plain h k at a = by (may_be_made k)
  where
    by : (b : Bool) → ArePlain (if b then with_node h (with_new h.nodes (new_content k)) at else h).nodes
    by true = new_plain h.nodes k a
    by false = a
