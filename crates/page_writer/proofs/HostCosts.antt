-- What the page weighs pays for the lines of its plan, those of nodes, events, listeners and timers among them.
use Rattle.std.proofs.Common.{◌≡◌, inl, inr, refl, ap, ℕ, zero, suc, ◌+◌, ◌-◌, ◌*◌, ◌≤◌, Bool, true, false, nat_eq, List, [], ◌∷◌, ◌++◌, length, Option, Some, None, arith}
use Rattle.std.specs.Prelude.{if◌then◌else◌, max}
use Rattle.std.proofs.lemmas.Bool.{eq-eqb, or_left, or_right}
use Rattle.std.proofs.lemmas.List.{length-append}
use Rattle.dom_tree.specs.Attributes.{Pairs}
use Rattle.dom_tree.specs.Node.{children_at, has, is_document, node_at}
use Rattle.dom_tree.specs.declared.content.Kind.{Kind}
use Rattle.dom_tree.specs.declared.content.Kind.TheVariants as kind
use Rattle.js_values.specs.declared.ids.NodeId.{NodeId}
use Rattle.js_values.specs.declared.ids.ObjId.{ObjId}
use Rattle.object_heap.specs.Chain.{object_at}
use Rattle.object_heap.specs.Object.{Object}
use Rattle.object_heap.specs.declared.object.Class.{Class}
use Rattle.object_heap.specs.declared.object.Class.TheVariants as class
use Rattle.page_host.specs.Host.{object_of_node}
use Rattle.page_host.specs.Steps.{time_limit}
use Rattle.page_host.specs.declared.listener.Listener.{Listener}
use Rattle.page_meaning.specs.Places.{document, window}
use Rattle.page_meaning.specs.Store.{Store}
use Rattle.heap_walker.specs.Still.{Still}
use Rattle.heap_walker.specs.Things.{IsWalk, globals_of, heard_at, is_in}
use Rattle.heap_walker.specs.Weight.{attributes_load, class_load, document_load, greatest, kind_load, listeners_load, load_of, props_load, set_load, things_load, timers_load}
use Rattle.timer_queue.specs.Timely.{AreTimely, IsPeriod, IsTimely}
use Rattle.timer_queue.specs.Timers.{is_live}
use Rattle.timer_queue.specs.declared.timer.Live.{Live}
use Rattle.rebuild_plan.proofs.Callers.{all_kids, all_nodes, kids, kids_as, kids_few, nodes_as}
use Rattle.rebuild_plan.specs.Compact.{Compact, Thing, compact, maker_as, moved_props, thing_of, things_at}
use Rattle.rebuild_plan.specs.Events.{SavedEvent, event_as, event_of}
use Rattle.rebuild_plan.specs.Moved.{moved}
use Rattle.rebuild_plan.specs.Nodes.{moved_listeners, moved_nodes, node_as, node_maker}
use Rattle.rebuild_plan.specs.Plan.{appends, attributes, clears, defines, dispatch, each, event, fill, fillers, init, listens, makes, plan, prevent, set_value, start, starts, statements_of, thing_place, timers, whole}
use Rattle.rebuild_plan.specs.Timers.{moved_timer, moved_timers}
use Rattle.rebuild_plan.specs.declared.phase.Phase.{Phase}
use Rattle.rebuild_plan.specs.declared.phase.Phase.TheVariants as phase
use Rattle.rebuild_plan.specs.declared.statement.Rebuild.{Rebuild}
use Rattle.rebuild_plan.specs.declared.statement.Rebuild.TheVariants.{Clear, Init}
use Rattle.page_writer.proofs.Costs.{all_written, bound_kept, cost, cost_append, defines_cost, fill_cost, function_kept, named, prevent_cost}
use Rattle.page_writer.proofs.Lined.{bytes, counted, made_most}
use Rattle.page_writer.proofs.Making.{later}
use Rattle.page_writer.proofs.Near.{IsNear, IsNoDocument, IsSaved, IsTargetNear, near_child, no_document, target_near}
use Rattle.page_writer.proofs.Spelled.{document_at_narrow, thing_at_narrow, window_narrow}
use Rattle.page_writer.proofs.Widths.{count_wide, number_wide}

-- ---- nodes and events

attributes_cost : (at : ObjId) (ps : Pairs) → named at ≤ 10 → cost (attributes at ps) ≤ bytes (attributes_load ps)
attributes_cost at [] few = omega arith
attributes_cost at (p ∷ ps) few = omega (arith, few, attributes_cost at ps few)

set_cost : (at : ObjId) (value : Option (List ℕ)) → named at ≤ 10 → cost (set_value at value) ≤ 21 + bytes (set_load value)
set_cost at None few = omega arith
set_cost at (Some text) few = omega (arith, few)

listens_cost : (at : ObjId) (things : List ℕ) (ls : List Listener) → named at ≤ 10
    → cost (listens at (moved_listeners things ls)) ≤ bytes (listeners_load ls)
listens_cost at things [] few = omega arith
listens_cost at things (l ∷ ls) few = omega (arith, few, listens_cost at things ls few)

init_cost : (at : ObjId) (e : SavedEvent) → named at ≤ 10 → cost (init at e) ≤ 38 + 6 * length e.kind
init_cost at e few = by e.begun
  where
    by : (b : Bool) → cost (if b then Init at e.kind e.bubbles e.cancelable ∷ [] else []) ≤ 38 + 6 * length e.kind
    by true = omega (arith, few)
    by false = omega arith

dispatch_cost : (at : ObjId) (target : Option ObjId) → named at ≤ 10 → IsNear target → cost (dispatch at target) ≤ 38
dispatch_cost at None few near = omega arith
dispatch_cost at (Some target) few near = omega (arith, few, near)

-- the statements of an object of this class but those for its children and its properties
abbrev rest_most : Store → List ℕ → ObjId → Class → ℕ
rest_most s things at c =
    cost (attributes at (node_as s.host things c).attributes ++ set_value at (node_as s.host things c).value)
    + (cost (event at (event_as things c)) + cost (listens at (node_as s.host things c).listeners))

rest_of_node : (s : Store) (things : List ℕ) (at : ObjId) (k : NodeId) → named at ≤ 10
    → rest_most s things at (class.Node k)
    ≤ 21 + (bytes (attributes_load (node_at s.host.nodes k.0).content.attributes)
    + (bytes (set_load (node_at s.host.nodes k.0).content.value) + bytes (listeners_load (heard_at k.0 s.host.listeners))))
rest_of_node s things at k few =
    omega (
      arith,
      cost_append (attributes at (node_at s.host.nodes k.0).content.attributes) (set_value at (node_at s.host.nodes k.0).content.value),
      attributes_cost at (node_at s.host.nodes k.0).content.attributes few,
      set_cost at (node_at s.host.nodes k.0).content.value few,
      listens_cost at things (heard_at k.0 s.host.listeners) few,
    )

event_cost : (at : ObjId) (e : SavedEvent) → named at ≤ 10 → IsNear e.target → cost (event at (Some e)) ≤ 76 + 6 * length e.kind
event_cost at e few near = omega (arith, cost_append (init at e) (dispatch at e.target), init_cost at e few, dispatch_cost at e.target few near)

-- what it weighs pays for these, but for a little
rest_cost : (s : Store) (things : List ℕ) (at : ObjId) (c : Class) → named at ≤ 10 → IsTargetNear things c
    → rest_most s things at c ≤ 76 + bytes (class_load s c)
rest_cost s things at (class.Node k) few near = omega (arith, rest_of_node s things at k few)
rest_cost s things at (class.Event parts) few near = omega (arith, event_cost at (event_of things parts) few near)
rest_cost s things at c few near = omega arith

node_made : (things : List ℕ) (proto : Option ObjId) (k : Kind) → is_document k ≡ false → made_most (node_maker things proto k) ≤ 28 + bytes (kind_load k)
node_made things proto kind.Document h = cc h
node_made things proto (kind.Element x) h = omega arith
node_made things proto (kind.Text x) h = omega arith
node_made things proto (kind.Comment x) h = omega arith

-- for a thing, with the statement that makes it, the one by which a node is put under its parent, and the last one
made_cost : (s : Store) (things : List ℕ) (at : ObjId) (proto : Option ObjId) (c : Class) → named at ≤ 10 → IsTargetNear things c → IsNoDocument s c
    → 53 + made_most (maker_as s things proto c) + rest_most s things at c + 36 * length (nodes_as c) ≤ 160 + bytes (class_load s c)
made_cost s things at proto (class.Page c env) few near other = omega (arith, function_kept s things proto c env)
made_cost s things at proto (class.Bound target this args) few near other = omega (arith, bound_kept s things proto target this args)
made_cost s things at proto (class.Node k) few near other =
    omega (arith, rest_of_node s things at k few, node_made things proto (node_at s.host.nodes k.0).content.kind other)
made_cost s things at proto (class.Event parts) few near other = omega (arith, event_cost at (event_of things parts) few near)
made_cost s things at proto c few near other = omega arith

-- ---- timers

fillers_cost : (n : ℕ) → cost (fillers n) ≤ 31 * n
fillers_cost zero = omega arith
fillers_cost (suc n) = omega (arith, fillers_cost n)

start_cost : (things : List ℕ) (clock : ℕ) (t : Live) → IsTimely time_limit clock t
    → cost (Clear t.id ∷ start (moved_timer things clock t) t.period ∷ []) ≤ 119
unfolding time_limit
start_cost things clock t timely =
    let clear : counted t.id ≤ 6 = count_wide t.id (omega (arith, timely.few)) in
    let soon : counted (t.due - clock) ≤ 17 = number_wide (t.due - clock) (omega (arith, timely.near)) in
    by t.period timely.period clear soon
  where
    by : (o : Option ℕ) → IsPeriod time_limit o → counted t.id ≤ 6 → counted (t.due - clock) ≤ 17 → cost (Clear t.id ∷ start (moved_timer things clock t) o ∷ []) ≤ 119
    by None h clear soon = omega (arith, clear, soon)
    by (Some n) h clear soon = omega (arith, clear, soon, number_wide n (omega (arith, h.1)))

starts_cost : (things : List ℕ) (clock : ℕ) (ts : List Live) → AreTimely time_limit clock ts → cost (starts (moved_timers things clock ts)) ≤ 119 * length ts
starts_cost things clock [] timely = omega arith
starts_cost things clock (t ∷ ts) timely =
    omega (arith, start_cost things clock t (timely t (inl refl)), starts_cost things clock ts (λ u h. timely u (inr h)))

clears_cost : (n id : ℕ) (ts : List Live) → id + n ≤ 90000 → cost (clears n id ts) ≤ 23 * n
clears_cost zero id ts few = omega arith
clears_cost (suc n) id ts few =
    omega (
      arith,
      cost_append (if is_live ts id then [] else (Clear id ∷ [])) (clears n (id + 1) ts),
      one (is_live ts id),
      clears_cost n (id + 1) ts (omega (arith, few)),
    )
  where
    one : (b : Bool) → cost (if b then [] else (Clear id ∷ [])) ≤ 23
    one true = omega arith
    one false = omega (arith, count_wide id (omega (arith, few)))

greatest_moved : (things : List ℕ) (clock : ℕ) (ts : List Live) → greatest (moved_timers things clock ts) ≡ greatest ts
greatest_moved things clock [] = refl
greatest_moved things clock (t ∷ ts) = ap (λ n. max t.id n) (greatest_moved things clock ts)

timers_cost : (things : List ℕ) (clock : ℕ) (ts : List Live) → AreTimely time_limit clock ts → greatest ts ≤ 75000
    → cost (timers (moved_timers things clock ts)) ≤ bytes (timers_load ts)
timers_cost things clock ts timely few =
    let us : List Live = moved_timers things clock ts in
    omega (
      arith,
      greatest_moved things clock ts,
      cost_append (fillers (greatest us)) (starts us ++ clears (greatest us) 1 us),
      cost_append (starts us) (clears (greatest us) 1 us),
      fillers_cost (greatest us),
      starts_cost things clock ts timely,
      clears_cost (greatest us) 1 us (omega (arith, greatest_moved things clock ts, few)),
    )

-- ---- children

appends_cost : (at : ObjId) (things : List ℕ) (objects : List ObjId) (ks : List NodeId) → named at ≤ 10
    → ((c : NodeId) → has c.0 ks ≡ true → named (moved things (object_of_node objects c)) ≤ 10)
    → cost (appends at (moved_nodes things objects ks)) ≤ 36 * length ks
appends_cost at things objects [] few near = omega arith
appends_cost at things objects (k ∷ ks) few near =
    omega (
      arith,
      few,
      near k (or_left (nat_eq k.0 k.0) (has k.0 ks) (eq-eqb k.0 k.0 refl)),
      appends_cost at things objects ks few (λ c h. near c (or_right (nat_eq c.0 k.0) (has c.0 ks) h)),
    )

-- all statements of these things but those for children, the first of which has the number n
abbrev things_most : ℕ → List Thing → ℕ
things_most n ts =
    cost (makes n ts)
    + (cost (each phase.Contents n ts)
    + (cost (each phase.Events n ts) + (cost (each phase.Listeners n ts) + (cost (each phase.Properties n ts) + cost (each phase.Ends n ts)))))

module _ (s : Store) (things : List ℕ) (still : Still s) (walk : IsWalk s things) (few : length things ≤ 75000) where
  kids_cost : (at : ObjId) (k : ℕ) → named at ≤ 10 → IsSaved s things still walk few k
      → cost (appends at (node_as s.host things (object_at s.heap.objects k).class).children) ≤ 36 * length (kids s k)
  kids_cost at k narrow saved = by (object_at s.heap.objects k).class refl
    where
      by : (b : Class) → (object_at s.heap.objects k).class ≡ b → cost (appends at (node_as s.host things b).children) ≤ 36 * length (kids_as s.host.nodes b)
      by (class.Node p) is =
          appends_cost at things s.host.objects (children_at s.host.nodes p.0) narrow (λ c h. near_child s things still walk few k p c saved is h)
      by b is = omega arith

  children_cost : (ks : List ℕ) (n : ℕ) → n + length ks ≤ 75000 → ((k : ℕ) → is_in k ks ≡ true → is_in k things ≡ true)
      → cost (each phase.Children n (things_at s things ks)) ≤ 36 * length (all_kids s ks)
  children_cost [] n fits there = omega arith
  children_cost (k ∷ ks) n fits there =
      let at : ObjId = thing_place n in
      let t : Thing = thing_of s things (object_at s.heap.objects k) in
      let ts : List Thing = things_at s things ks in
      omega (
        arith,
        kids_cost at k (thing_at_narrow n (omega (arith, fits))) (inr (there k (or_left (nat_eq k k) (is_in k ks) (eq-eqb k k refl)))),
        cost_append (statements_of phase.Children at t) (each phase.Children (suc n) ts),
        length-append (kids s k) (all_kids s ks),
        children_cost ks (suc n) (omega (arith, fits)) (λ j h. there j (or_right (nat_eq j k) (is_in j ks) h)),
      )

  things_cost : (ks : List ℕ) (n : ℕ) → n + length ks ≤ 75000 → ((k : ℕ) → is_in k ks ≡ true → is_in k things ≡ true)
      → things_most n (things_at s things ks) + 36 * length (all_nodes s ks) ≤ bytes (things_load s ks)
  things_cost [] n fits there = omega arith
  things_cost (k ∷ ks) n fits there =
      let o : Object = object_at s.heap.objects k in
      let at : ObjId = thing_place n in
      let t : Thing = thing_of s things o in
      let ts : List Thing = things_at s things ks in
      let narrow : named at ≤ 10 = thing_at_narrow n (omega (arith, fits)) in
      let here : is_in k things ≡ true = there k (or_left (nat_eq k k) (is_in k ks) (eq-eqb k k refl)) in
      omega (
        arith,
        made_cost s things at o.proto o.class narrow (target_near s things still walk few k (inr here)) (no_document s things still walk few k here),
        fill_cost s things at o narrow,
        prevent_cost at t narrow,
        cost_append (statements_of phase.Contents at t) (each phase.Contents (suc n) ts),
        cost_append (statements_of phase.Events at t) (each phase.Events (suc n) ts),
        cost_append (statements_of phase.Listeners at t) (each phase.Listeners (suc n) ts),
        cost_append (statements_of phase.Properties at t) (each phase.Properties (suc n) ts),
        cost_append (statements_of phase.Ends at t) (each phase.Ends (suc n) ts),
        length-append (nodes_as o.class) (all_nodes s ks),
        things_cost ks (suc n) (omega (arith, fits)) (λ j h. there j (or_right (nat_eq j k) (is_in j ks) h)),
      )

  -- ---- the whole plan

  abbrev document_most : ℕ
  document_most =
      let t : Thing = (compact s things).document in
      rest_most s things document (object_at s.heap.objects document.0).class + (cost (fill document t) + cost (prevent document t))

  document_cost : document_most ≤ 116 + bytes (document_load s)
  document_cost =
      let o : Object = object_at s.heap.objects document.0 in
      omega (
        arith,
        rest_cost s things document o.class document_at_narrow (target_near s things still walk few document.0 (inl refl)),
        fill_cost s things document o document_at_narrow,
        prevent_cost document (compact s things).document document_at_narrow,
      )

  -- each phase, the document's part first
  phase_cost : (p : Phase) → cost (whole p (compact s things)) ≡ cost (statements_of p document (compact s things).document) + cost (each p 0 (things_at s things things))
  phase_cost p = cost_append (statements_of p document (compact s things).document) (each p 0 (things_at s things things))

  later_cost : cost (later (compact s things))
      ≡ cost (whole phase.Children (compact s things))
      + (cost (whole phase.Contents (compact s things))
      + (cost (whole phase.Events (compact s things))
      + (cost (whole phase.Listeners (compact s things))
      + (cost (defines false false window (moved_props things (globals_of s)))
      + (cost (whole phase.Properties (compact s things))
      + (cost (timers (moved_timers things s.host.clock s.host.timers)) + cost (whole phase.Ends (compact s things))))))))
  later_cost =
      let c : Compact = compact s things in
      let ends : List Rebuild = whole phase.Ends c in
      let alarms : List Rebuild = timers c.timers ++ ends in
      let filled : List Rebuild = whole phase.Properties c ++ alarms in
      let globals : List Rebuild = defines false false window c.globals ++ filled in
      let heard : List Rebuild = whole phase.Listeners c ++ globals in
      let sent : List Rebuild = whole phase.Events c ++ heard in
      let put : List Rebuild = whole phase.Contents c ++ sent in
      omega (
        arith,
        cost_append (whole phase.Children c) put,
        cost_append (whole phase.Contents c) sent,
        cost_append (whole phase.Events c) heard,
        cost_append (whole phase.Listeners c) globals,
        cost_append (defines false false window c.globals) filled,
        cost_append (whole phase.Properties c) alarms,
        cost_append (timers c.timers) ends,
      )

  pub plan_cost : greatest s.host.timers ≤ 75000 → cost (plan (compact s things)) ≤ bytes (load_of s things) + 116
  plan_cost last =
      let c : Compact = compact s things in
      omega (
        arith,
        cost_append (makes 0 c.things) (later c),
        later_cost,
        phase_cost phase.Children,
        phase_cost phase.Contents,
        phase_cost phase.Events,
        phase_cost phase.Listeners,
        phase_cost phase.Properties,
        phase_cost phase.Ends,
        kids_cost document document.0 document_at_narrow (inl refl),
        children_cost things 0 (omega (arith, few)) (λ k h. h),
        length-append (kids s document.0) (all_kids s things),
        kids_few s things still walk,
        things_cost things 0 (omega (arith, few)) (λ k h. h),
        document_cost,
        defines_cost false false window things (globals_of s) window_narrow,
        ap (λ l. bytes (props_load l)) (all_written (globals_of s)),
        timers_cost things s.host.clock s.host.timers still.shaped.host.sound.timely last,
      )
