-- Each statement of nodes, events, listeners and timers that can run does, and leaves the page that is wanted.
use Rattle.std.proofs.Common.{◌≡◌, refl, sym, ap, subst, ◌∙◌, ℕ, suc, ◌+◌, ◌<◌, ◌≤◌, Bool, true, false, length, max, List, [], ◌∷◌, Option, Some, None, arith, codes, if◌then◌else◌}
use Rattle.std.specs.Option.{option_map}
use Rattle.js_core.specs.Tree.{name}
use Rattle.js_values.specs.declared.built_in.BuiltIn.TheVariants as built_in
use Rattle.js_values.specs.declared.ids.ObjId.{ObjId}
use Rattle.js_values.specs.declared.value.Value.TheVariants.{Object as Reference}
use Rattle.dom_tree.specs.Steps.{NodeStep, inserts, sets_attribute, sets_value}
use Rattle.dom_tree.proofs.Callers.{steps_stay_sound}
use Rattle.object_heap.specs.Chain.{first_found, found, object_at}
use Rattle.object_heap.specs.Heap.{Contents, with_object}
use Rattle.object_heap.specs.Object.{Object}
use Rattle.object_heap.specs.Property.{own_property}
use Rattle.object_heap.specs.declared.object.Class.TheVariants as class
use Rattle.object_heap.proofs.Callers.{found_on}
use Rattle.page_host.specs.Host.{Host, object_of_node}
use Rattle.page_host.specs.Steps.{HostStep, after_fit, after_host, clears, in_nodes, is_fit, listens, starts}
use Rattle.page_host.specs.declared.host_name.HostName.TheVariants.{Value as HasValue}
use Rattle.page_host.proofs.Callers.{hosts_stay_sound}
use Rattle.page_meaning.specs.Act.{Ended, nothing}
use Rattle.page_meaning.specs.Calls.{calls_at}
use Rattle.page_meaning.specs.Classes.{class_at, is_node_class}
use Rattle.page_meaning.specs.Events.{after_event, begins, initialises, rests}
use Rattle.page_meaning.specs.HostNames as seen
use Rattle.page_meaning.specs.HostNames.{has_host_name, see}
use Rattle.page_meaning.specs.NodeRows.{listener_of}
use Rattle.page_meaning.specs.Places.{function_at}
use Rattle.page_meaning.specs.Reading.{seen_at}
use Rattle.page_meaning.specs.Statements.{exec}
use Rattle.page_meaning.specs.Steps.{after_step, fits_host, in_host}
use Rattle.page_meaning.specs.Store.{Store, with_both, with_heap}
use Rattle.page_writer.specs.Frame.{nth_node}
use Rattle.page_writer.specs.References.{reference}
use Rattle.page_writer.specs.Statements.{statement}
use Rattle.rebuild_plan.specs.declared.statement.Rebuild.{Rebuild}
use Rattle.rebuild_plan.specs.declared.statement.Rebuild.TheVariants.{Append, Attribute, SetValue, Init, Dispatch, Listen, Filler, Clear, Timeout, Interval}
use Rattle.rebuilding.specs.Running.{CanAppend, CanDispatch, CanInit, CanListen, CanSetAttribute, CanSetValue, CanStart, HasChanged, HasHosted, HasRun, IsNodeHere, Runs, Stand, node_here, object_here, with_parts}
use Rattle.rebuilding.specs.Scene.{IsHosting, IsRunning, Scene, inside}
use Rattle.rebuilding.specs.Sites.{site, sited}
use Rattle.rebuilding.proofs.HostCalls.{Reads}
use Rattle.rebuilding.proofs.HostMethods as methods
use Rattle.rebuilding.proofs.StepStatements.{IsNodeAt, append_runs, attribute_runs, clear_runs, dispatch_runs, init_runs, interval_runs, listen_runs, timeout_runs, value_runs}

-- ---- the host keeps what holds of it

-- neither a node nor an object of one comes or goes, and no time passes
record IsAlike (g j : Host) : Type 0 where
  nodes : length j.nodes ≡ length g.nodes
  objects : j.objects ≡ g.objects
  clock : j.clock ≡ g.clock

data Keeps : HostStep → Type 0 where
  of_nodes : {s : NodeStep} → Keeps (in_nodes s)
  of_listeners : {l : _} → Keeps (listens l)
  of_timers : {n : ℕ} {p : Option ℕ} {f : ObjId} → Keeps (starts n p f)
  of_clears : {n : ℕ} → Keeps (clears n)

alike_fit : (g : Host) (s : HostStep) → Keeps s → IsAlike g (after_fit g s)
alike_fit g _ (of_nodes {s = s}) = record { nodes = (steps_stay_sound g.nodes s).long; objects = refl; clock = refl }
alike_fit g _ of_listeners = record { nodes = refl; objects = refl; clock = refl }
alike_fit g _ of_timers = record { nodes = refl; objects = refl; clock = refl }
alike_fit g _ of_clears = record { nodes = refl; objects = refl; clock = refl }

alike : (g : Host) (s : HostStep) → Keeps s → IsAlike g (after_host g s)
alike g s k = by (is_fit g s)
  where
    by : (b : Bool) → IsAlike g (if b then after_fit g s else g)
    by true = alike_fit g s k
    by false = record { nodes = refl; objects = refl; clock = refl }

hosting_kept : (h : Contents) (g : Host) (s : HostStep) → Keeps s → IsHosting h g → IsHosting h (after_host g s)
hosting_kept h g s k is =
    let a = alike g s k in
    record {
      sound = hosts_stay_sound g s is.sound;
      objects = λ m low. subst (λ os. IsAt m os) (sym a.objects) (is.objects m (subst (λ n. m < n) a.nodes low));
      clock = a.clock ∙ is.clock;
    }
  where
    IsAt : ℕ → List ObjId → Type 0
    IsAt m os = (object_at h.objects (object_of_node os (nth_node m)).0).class ≡ class.Node (nth_node m)

greater : (m n : ℕ) → m ≤ n → max m n ≡ n
greater m n h = omega (arith, h)

-- ---- the statements

module _ (c : Scene) (s : Store) (sites : List ℕ) (r : IsRunning c s.heap sites) (is : IsHosting s.heap s.host) (d n : ℕ)
    (read : (at : ObjId) → Stand sites (at.0 ∷ []) → Reads (inside c) d s n (reference at) (Reference (sited sites at))) where
  abbrev RunsSo : Rebuild → Type 0
  RunsSo q = Runs c s sites q (suc n) ((exec (calls_at (suc d)) (inside c) (statement q)).run s (suc n))

  -- a statement that is one step of the host
  hosted : (q : Rebuild) (g : HostStep) (left : ℕ) → Keeps g → fits_host s g ≡ true → suc n ≤ left + 1
      → (exec (calls_at (suc d)) (inside c) (statement q)).run s (suc n) ≡ Ended nothing (after_step s (in_host g)) left
      → (HasHosted s.heap s.host s.heap (after_host s.host g) sites sites g → HasRun c s.heap s.host s.heap (after_host s.host g) sites sites q) → RunsSo q
  hosted q g left keeps fits few ran give = record {
    after = s.heap;
    host = after_host s.host g;
    new_sites = sites;
    left = left;
    steps = few;
    ends = ran ∙ ap (λ (b : Bool). Ended nothing (with_both s s.heap (if b then after_host s.host g else s.host)) left) fits;
    has_run = give (record { same = refl; heap = refl; host = refl });
    running = r;
    hosting = hosting_kept s.heap s.host g keeps is;
  }

  node_is : (at : ObjId) → IsNodeHere s.heap s.host sites at → IsNodeAt s (sited sites at) (node_here s.heap sites at)
  node_is at i = record { class = i.class; there = i.there }

  pub appended : (at to : ObjId) → CanAppend s.heap s.host sites at to → RunsSo (Append at to)
  appended at to can =
      let k = node_here s.heap sites at in
      let l = node_here s.heap sites to in
      hosted (Append at to) (in_nodes (inserts k l None)) n of_nodes refl (omega arith)
      (append_runs (inside c) d s n (reference at) (reference to) (sited sites at) (sited sites to) k l (read at can.parent.stands) (read to can.child.stands)
      (methods.appends s r.place.sound.prototypes r.own.objects (sited sites at) can.parent.proto can.lacks)
      (node_is at can.parent) (node_is to can.child) can.fits)
      (λ i. i)

  pub attribute_set : (at : ObjId) (x v : List ℕ) → CanSetAttribute s.heap s.host sites at x → RunsSo (Attribute at x v)
  attribute_set at x v can =
      let k = node_here s.heap sites at in
      hosted (Attribute at x v) (in_nodes (sets_attribute k x v)) n of_nodes refl (omega arith)
      (attribute_runs (inside c) d s n (reference at) (sited sites at) k x v (read at can.is.stands)
      (methods.sets_attribute s r.place.sound.prototypes r.own.objects (sited sites at) can.is.proto can.lacks)
      (node_is at can.is) can.element can.plain can.named)
      (λ i. i)

  pub listener_added : (at : ObjId) (x : List ℕ) (f : ObjId) (capture : Bool) → CanListen s.heap s.host sites at f → RunsSo (Listen at x f capture)
  listener_added at x f capture can =
      let k = node_here s.heap sites at in
      hosted (Listen at x f capture) (listens (listener_of k x (sited sites f) capture)) n of_listeners can.callable (omega arith)
      (listen_runs (inside c) d s n (reference at) (reference f) (sited sites at) (sited sites f) k x capture (read at can.is.stands) (read f can.stands)
      (methods.adds_listener s r.place.sound.prototypes r.own.objects (sited sites at) can.is.proto can.lacks)
      (node_is at can.is) can.callable)
      (λ i. i)

  -- the node itself has the name of the host
  value_seen : (at : ObjId) → CanSetValue s.heap s.host sites at
      → seen_at s (sited sites at) (codes "value") HasValue ≡ Some (seen.hosted (class.Node (node_here s.heap sites at)))
  value_seen at can =
      let k = site sites at.0 in
      let o = object_at s.heap.objects k in
      found_on (see s.host.nodes (codes "value") HasValue) s.heap.objects k r.place.sound.prototypes
      ∙ ap (λ a. first_found (if has_host_name s.host.nodes a HasValue then Some (seen.hosted a) else option_map seen.held (own_property o.props (codes "value"))) o.proto
      (λ q. found (see s.host.nodes (codes "value") HasValue) s.heap.objects q)) can.is.class
      ∙ ap (λ (b : Bool). first_found (if b then Some (seen.hosted (class.Node (node_here s.heap sites at))) else option_map seen.held (own_property o.props (codes "value"))) o.proto
      (λ q. found (see s.host.nodes (codes "value") HasValue) s.heap.objects q)) can.has

  pub value_set : (at : ObjId) (t : List ℕ) → CanSetValue s.heap s.host sites at → RunsSo (SetValue at t)
  value_set at t can =
      let k = node_here s.heap sites at in
      hosted (SetValue at t) (in_nodes (sets_value k t)) (suc n) of_nodes refl (omega arith)
      (value_runs (inside c) d s n (reference at) (sited sites at) k t (read at can.is.stands) can.is.class can.has (value_seen at can))
      (λ i. i)

  -- ---- events

  -- the page with this object in place of the one there is still one on which statements run
  pub record Takes (k : ℕ) (o : Object) : Type 0 where
    pub changed : HasChanged s.heap s.host (with_object s.heap k o) s.host sites sites k o
    pub running : IsRunning c (with_object s.heap k o) sites
    pub hosting : IsHosting (with_object s.heap k o) s.host

  pub initialised : (at : ObjId) (x : List ℕ) (bubbles cancelable : Bool) → CanInit s.heap sites at
      → Takes (site sites at.0) (with_parts (object_here s.heap sites at) (after_event (initialises x bubbles cancelable)))
      → RunsSo (Init at x bubbles cancelable)
  initialised at x bubbles cancelable can takes = record {
    after = with_object s.heap (site sites at.0) (with_parts (object_here s.heap sites at) (after_event (initialises x bubbles cancelable)));
    host = s.host;
    new_sites = sites;
    left = n;
    steps = omega arith;
    ends = init_runs (inside c) d s n (reference at) (sited sites at) can.parts x bubbles cancelable (read at can.stands)
        (methods.initialises s r.place.sound.prototypes r.own.objects (sited sites at) can.proto can.lacks) can.class;
    has_run = takes.changed;
    running = takes.running;
    hosting = takes.hosting;
  }

  pub dispatched : (at event : ObjId) → CanDispatch s.heap s.host sites at event → site sites event.0 < length s.heap.objects
      → Takes (site sites event.0) (with_parts (object_here s.heap sites event) (λ p. after_event rests (after_event (begins (sited sites at)) p)))
      → RunsSo (Dispatch at event)
  dispatched at event can event_there takes =
      let k = node_here s.heap sites at in
      let same : object_of_node s.host.objects k ≡ sited sites at = can.is.own in
      let fits : is_node_class s.host.nodes (class_at s (sited sites at)) ≡ true = ap (is_node_class s.host.nodes) can.is.class ∙ can.is.there in
      record {
        after = with_object s.heap (site sites event.0) (with_parts (object_here s.heap sites event) (λ p. after_event rests (after_event (begins (sited sites at)) p)));
        host = s.host;
        new_sites = sites;
        left = n;
        steps = omega arith;
        ends = dispatch_runs (inside c) d s n (reference at) (reference event) (sited sites at) (sited sites event) k can.parts (read at can.is.stands) (read event can.stands)
            (methods.dispatches s r.place.sound.prototypes r.own.objects (sited sites at) can.is.proto can.lacks) (node_is at can.is) can.class can.may can.inside event_there can.silent
            (subst (λ o. is_node_class s.host.nodes (class_at s o) ≡ true) (sym same) fits)
            ∙ ap (λ (o : ObjId). Ended nothing (with_heap s (with_object s.heap (site sites event.0)
            (with_parts (object_here s.heap sites event) (λ p. after_event rests (after_event (begins o) p))))) n) same;
        has_run = takes.changed;
        running = takes.running;
        hosting = takes.hosting;
      }

  -- ---- timers

  module _ (timeout : Reads (inside c) d s n (name (codes "setTimeout")) (Reference (function_at built_in.SetTimeout)))
      (interval : Reads (inside c) d s n (name (codes "setIntervalFrom")) (Reference (function_at built_in.SetIntervalFrom)))
      (clear : Reads (inside c) d s n (name (codes "clearTimeout")) (Reference (function_at built_in.ClearTimeout)))
      (object : Reads (inside c) d s n (name (codes "Object")) (Reference (function_at built_in.Object))) where
    pub filled : CanStart s.heap s.host (function_at built_in.Object).0 0 None → RunsSo Filler
    filled can =
        hosted Filler (starts 0 None (function_at built_in.Object)) n of_timers can.callable (omega arith)
        (timeout_runs (inside c) d s n (name (codes "Object")) (function_at built_in.Object) 0 timeout
        (methods.is_set_timeout s r.place.sound.prototypes r.own.objects) object can.callable can.room)
        (λ i. i)

    pub cleared : (id : ℕ) → RunsSo (Clear id)
    cleared id =
        hosted (Clear id) (clears id) n of_clears refl (omega arith)
        (clear_runs (inside c) d s n id clear (methods.is_clear_timeout s r.place.sound.prototypes r.own.objects))
        (λ i. i)

    pub timeout_begun : (f : ObjId) (rest : ℕ) → Stand sites (f.0 ∷ []) → CanStart s.heap s.host (site sites f.0) rest None → RunsSo (Timeout f rest)
    timeout_begun f rest stands can =
        hosted (Timeout f rest) (starts rest None (sited sites f)) n of_timers can.callable (omega arith)
        (timeout_runs (inside c) d s n (reference f) (sited sites f) rest timeout
        (methods.is_set_timeout s r.place.sound.prototypes r.own.objects) (read f stands) can.callable can.room)
        (λ i. i)

    pub interval_begun : (f : ObjId) (rest period : ℕ) → 1 ≤ period → Stand sites (f.0 ∷ []) → CanStart s.heap s.host (site sites f.0) rest (Some period)
        → RunsSo (Interval f rest period)
    interval_begun f rest period positive stands can =
        hosted (Interval f rest period) (starts rest (Some period) (sited sites f)) n of_timers can.callable (omega arith)
        (interval_runs (inside c) d s n (reference f) (sited sites f) rest period interval
        (methods.is_set_interval_from s r.place.sound.prototypes r.own.objects) (read f stands) can.callable can.room
        ∙ ap (λ (m : ℕ). Ended nothing (after_step s (in_host (starts rest (Some m) (sited sites f)))) n) (greater 1 period positive))
        (λ i. i)
