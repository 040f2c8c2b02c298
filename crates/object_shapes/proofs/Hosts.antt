-- What is done to the host of a page keeps the shapes of the page.
use Rattle.std.proofs.Common.{◌≡◌, ◌⊎◌, inl, inr, refl, sym, ap, subst, ◌∙◌, ℕ, ◌+◌, ◌<◌, ◌≤◌, Bool, true, false, ◌&&◌, not, IsTrue, nat_lt, List, [], ◌∷◌, ◌++◌, Option, Some, None, length, if◌then◌else◌, arith}
use Rattle.std.proofs.lemmas.List.Elements.{All-filter, All-push}
use Rattle.js_values.specs.declared.ids.NodeId.{NodeId}
use Rattle.dom_tree.proofs.Callers.{steps_stay_sound}
use Rattle.object_heap.specs.Chain.{object_at}
use Rattle.timer_queue.proofs.Callers.{in_cleared, in_end, is_taken}
use Rattle.timer_queue.specs.Timers.{IsIn, after_first, again, cleared}
use Rattle.timer_queue.specs.declared.timer.Live.{Live}
use Rattle.page_host.proofs.Callers.{hosts_stay_sound, steps_stay_plain}
use Rattle.page_host.specs.declared.host_name.HostName.{HostName}
use Rattle.page_host.specs.declared.listener.Listener.{Listener}
use Rattle.page_host.specs.Host.{Host, object_of_node}
use Rattle.page_host.specs.HostNames.{has_at_node}
use Rattle.page_host.specs.Listeners.{is_registered, is_same_listener, with_listener}
use Rattle.page_host.specs.Sound as host
use Rattle.page_host.specs.Steps.{HostStep, after_fit, after_host, clears, clock_at, fires, forgets, in_nodes, is_fit, listens, next_timer, starts}
use Rattle.page_meaning.specs.Classes.{class_at, is_callable_class}
use Rattle.page_meaning.specs.Places.{built_in_count}
use Rattle.page_meaning.specs.Steps.{changed_host, fits_host}
use Rattle.page_meaning.specs.Store.{Store, with_host}
use Rattle.object_shapes.specs.Hosted.{CallsFunctions, CanBeCalled, IsHosted, has_no_kept}
use Rattle.object_shapes.specs.Shapes.{HasShape, IsShaped}
use Rattle.object_shapes.proofs.Free.{kept_same, same_free}
use Rattle.object_shapes.proofs.Held.{props_same, shape_kept}
use Rattle.object_shapes.proofs.NodeNames.{SameNames, none_names, step_names}

-- what stays of the host, for the heap of a page
record HostStays (s : Store) (h : Host) : Type 0 where
  long : length h.nodes ≡ length s.host.nodes
  objects : h.objects ≡ s.host.objects
  names : SameNames s.host.nodes h.nodes
  heard : CallsFunctions s h.listeners
  calls : CanBeCalled s h.timers

-- ---- listeners and timers

heard_with : (s : Store) (ls : List Listener) (l : Listener) → is_callable_class (class_at s l.call) ≡ true → CallsFunctions s ls → CallsFunctions s (with_listener ls l)
heard_with s ls l fit h = by (is_registered ls l)
  where
    by : (b : Bool) → CallsFunctions s (if b then ls else ls ++ l ∷ [])
    by true = h
    by false = All-push (λ m. IsTrue (is_callable_class (class_at s m.call))) ls l h fit

called_one : (s : Store) (u t : Live) → u ≡ t → is_callable_class (class_at s u.call) ≡ true → is_callable_class (class_at s t.call) ≡ true
called_one s u t e h = subst (λ (v : Live). is_callable_class (class_at s v.call) ≡ true) e h

calls_with : (s : Store) (ts us : List Live) → CanBeCalled s ts → CanBeCalled s us → CanBeCalled s (ts ++ us)
calls_with s ts us h g t i = by (in_end ts us t i)
  where
    by : IsIn ts t ⊎ IsIn us t → IsTrue (is_callable_class (class_at s t.call))
    by (inl old) = h t old
    by (inr new) = g t new

calls_one : (s : Store) (u : Live) → is_callable_class (class_at s u.call) ≡ true → CanBeCalled s (u ∷ [])
calls_one s u h t (inl e) = called_one s u t e h
calls_one s u h t (inr none) = absurd none

calls_cleared : (s : Store) (ts : List Live) (id : ℕ) → CanBeCalled s ts → CanBeCalled s (cleared ts id)
calls_cleared s ts id h t i = h t (in_cleared ts id t i)

calls_again : (s : Store) (u : Live) (p : Option ℕ) → is_callable_class (class_at s u.call) ≡ true → CanBeCalled s (again u p)
calls_again s u None h = λ t i. absurd i
calls_again s u (Some period) h = calls_one s (record u { due = u.due + period }) h

calls_fired : (s : Store) (moment : ℕ) (o : Option Live) → next_timer s.host moment ≡ o → CanBeCalled s s.host.timers → CanBeCalled s (after_first s.host.timers o)
calls_fired s moment None e h = h
calls_fired s moment (Some u) e h =
    calls_with s (cleared s.host.timers u.id) (again u u.period) (calls_cleared s s.host.timers u.id h)
    (calls_again s u u.period (h u (is_taken s.host.timers moment u e).inside))

-- ---- each step

same_host : (s : Store) → IsHosted s → HostStays s s.host
same_host s h = record { long = refl; objects = refl; names = none_names s.host.nodes; heard = h.heard; calls = h.calls }

fit_stays : (s : Store) (g : HostStep) → fits_host s g ≡ true → IsHosted s → HostStays s (after_fit s.host g)
fit_stays s (in_nodes g) fit h = record {
  long = (steps_stay_sound s.host.nodes g).long;
  objects = refl;
  names = step_names s.host.nodes g;
  heard = h.heard;
  calls = h.calls;
}
fit_stays s (listens l) fit h = record {
  long = refl;
  objects = refl;
  names = none_names s.host.nodes;
  heard = heard_with s s.host.listeners l fit h.heard;
  calls = h.calls;
}
fit_stays s (forgets l) fit h = record {
  long = refl;
  objects = refl;
  names = none_names s.host.nodes;
  heard = All-filter (λ m. not (is_same_listener l m)) (λ m. IsTrue (is_callable_class (class_at s m.call))) s.host.listeners h.heard;
  calls = h.calls;
}
fit_stays s (starts delay period f) fit h = record {
  long = refl;
  objects = refl;
  names = none_names s.host.nodes;
  heard = h.heard;
  calls = calls_with s s.host.timers _ h.calls (calls_one s _ fit);
}
fit_stays s (clears id) fit h = record {
  long = refl;
  objects = refl;
  names = none_names s.host.nodes;
  heard = h.heard;
  calls = calls_cleared s s.host.timers id h.calls;
}
fit_stays s (fires moment) fit h = record {
  long = refl;
  objects = refl;
  names = none_names s.host.nodes;
  heard = h.heard;
  calls = calls_fired s moment (next_timer s.host moment) refl h.calls;
}
fit_stays s (clock_at moment) fit h = record {
  long = refl;
  objects = refl;
  names = none_names s.host.nodes;
  heard = h.heard;
  calls = h.calls;
}

after_stays : (s : Store) (g : HostStep) → fits_host s g ≡ true → IsHosted s → HostStays s (after_host s.host g)
after_stays s g fit h = by (is_fit s.host g)
  where
    by : (b : Bool) → HostStays s (if b then after_fit s.host g else s.host)
    by true = fit_stays s g fit h
    by false = same_host s h

-- ---- the page

stays_hosted : (s : Store) (h : Host) → HostStays s h → host.IsSound h → IsHosted s → IsHosted (with_host s h)
stays_hosted s h stays sound old = record {
  sound = sound;
  object_of = λ k there.
      ap (λ os. class_at s (object_of_node os (record { 0 = k }))) stays.objects ∙ old.object_of k (subst (λ n. k < n) stays.long there);
  node_of = λ j k e.
      let was = old.node_of j k e in
      (subst (λ n. k < n) (sym stays.long) was.0, ap (λ os. object_of_node os (record { 0 = k })) stays.objects ∙ was.1);
  document = ap (λ os. object_of_node os (record { 0 = 0 })) stays.objects ∙ old.document;
  heard = stays.heard;
  calls = stays.calls;
}

-- the host changes alone
pub host_shaped : (s : Store) (h : Host) → IsShaped s → length s.host.nodes ≤ length h.nodes
    → ((j : ℕ) → has_no_kept s (object_at s.heap.objects j) ≡ true → has_no_kept (with_host s h) (object_at s.heap.objects j) ≡ true)
    → IsHosted (with_host s h) → IsShaped (with_host s h)
host_shaped s h shaped longer free hosted = record {
  built_ins = shaped.built_ins;
  window = shaped.window;
  all_there = shaped.all_there;
  there = shaped.there;
  bound_there = shaped.bound_there;
  older = shaped.older;
  made = λ k thing. shape k (shaped.made k thing);
  not_closed = shaped.not_closed;
  document = shape built_in_count shaped.document;
  document_open = shaped.document_open;
  host = hosted;
}
  where
    shape : (k : ℕ) → HasShape s (object_at s.heap.objects k) (object_at s.heap.objects k).class
        → HasShape (with_host s h) (object_at s.heap.objects k) (object_at s.heap.objects k).class
    shape k g = shape_kept s (with_host s h) (object_at s.heap.objects k) (object_at s.heap.objects k) (object_at s.heap.objects k).class
        (record { functions = λ at f. (refl, f); nodes = λ at j e. e; longer = longer }) refl
        (props_same (object_at s.heap.objects k).class (object_at s.heap.objects k).props) (free k) g

stays_shaped : (s : Store) (h : Host) → HostStays s h → host.IsSound h → IsShaped s → IsShaped (with_host s h)
stays_shaped s h stays sound shaped =
    let long = stays.long in
    host_shaped s h shaped (omega (arith, long))
    (λ j. same_free s.host.nodes h.nodes (object_at s.heap.objects j).class (object_at s.heap.objects j).class
    (kept_same s.host.nodes h.nodes (object_at s.heap.objects j).class (λ k e. same k)) (object_at s.heap.objects j).props)
    (stays_hosted s h stays sound shaped.host)
  where
    same : (k : NodeId) (n : HostName) → has_at_node h.nodes k n ≡ has_at_node s.host.nodes k n
    same k n = (λ i. nat_lt k.0 (stays.long i) && stays.names k.0 n i)

pub host_step_shaped : (s : Store) (g : HostStep) → IsShaped s → IsShaped (with_host s (changed_host s g))
host_step_shaped s g shaped = by_case (fits_host s g) refl
  where
    by_case : (b : Bool) → fits_host s g ≡ b → IsShaped (with_host s (if b then after_host s.host g else s.host))
    by_case true fit = stays_shaped s (after_host s.host g) (after_stays s g fit shaped.host) (hosts_stay_sound s.host g shaped.host.sound) shaped
    by_case false fit = shaped

pub host_step_plain : (s : Store) (g : HostStep) → host.ArePlain s.host.nodes → host.ArePlain (changed_host s g).nodes
host_step_plain s g plain = by_case (fits_host s g)
  where
    by_case : (b : Bool) → host.ArePlain (if b then after_host s.host g else s.host).nodes
    by_case true = steps_stay_plain s.host g plain
    by_case false = plain
