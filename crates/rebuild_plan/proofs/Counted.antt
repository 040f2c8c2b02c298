-- A plan makes each thing, and may tell that it gets no new properties; a node may be put under another and get a value, and an event is
-- initialised and dispatched; each other statement is one for something that is saved.
use Rattle.std.proofs.Common.{◌≡◌, refl, sym, ap, subst, ◌∙◌, ℕ, zero, suc, ◌+◌, ◌*◌, ◌≤◌, Bool, true, false, ◌&&◌, ◌||◌, List, [], ◌∷◌, ◌++◌, Option, None, Some, length, bytes_eq, arith}
use Rattle.std.specs.Prelude.{if◌then◌else◌, is_none}
use Rattle.std.proofs.lemmas.Bool.{and_parts}
use Rattle.std.proofs.lemmas.List.{length-append}
use Rattle.std.proofs.lemmas.Slice.Eq.{bytes_eq-Decides}
use Rattle.dom_tree.specs.Attributes.{Pairs}
use Rattle.dom_tree.specs.Node.{children_at, is_document, node_at}
use Rattle.dom_tree.specs.Sound.{is_proper, takes_value}
use Rattle.dom_tree.specs.declared.content.Content.{Content}
use Rattle.dom_tree.specs.declared.content.Kind.{Kind}
use Rattle.dom_tree.specs.declared.content.Kind.TheVariants as kind
use Rattle.heap_walker.specs.Things.{globals_of, heard_at}
use Rattle.heap_walker.specs.Weight.{attributes_load, class_load, document_load, greatest, has_made_length, kind_load, listeners_load, props_load, set_load, things_load, timers_load, written, written_of}
use Rattle.js_values.specs.declared.ids.NodeId.{NodeId}
use Rattle.js_values.specs.declared.ids.ObjId.{ObjId}
use Rattle.object_heap.specs.Chain.{object_at}
use Rattle.object_heap.specs.Define.{length_name}
use Rattle.object_heap.specs.Function.{prototype_name}
use Rattle.object_heap.specs.Object.{Object}
use Rattle.object_heap.specs.Property.{Props, own_property}
use Rattle.object_heap.specs.declared.object.Class.{Class}
use Rattle.object_heap.specs.declared.object.Class.TheVariants as class
use Rattle.object_heap.specs.declared.object.EventParts.{EventParts}
use Rattle.page_host.specs.Host.{Host}
use Rattle.page_host.specs.declared.listener.Listener.{Listener}
use Rattle.page_meaning.specs.Places.{document, window}
use Rattle.page_meaning.specs.Store.{Store}
use Rattle.timer_queue.specs.Timers.{is_live}
use Rattle.timer_queue.specs.declared.timer.Live.{Live}
use Rattle.rebuild_plan.specs.Compact.{Compact, Thing, compact, maker_as, moved_props, moved_proto, thing_of, things_at}
use Rattle.rebuild_plan.specs.Count.{PlansAreFew}
use Rattle.rebuild_plan.specs.Events.{SavedEvent, event_as, event_of}
use Rattle.rebuild_plan.specs.Nodes.{moved_listeners, moved_nodes, node_as, node_maker}
use Rattle.rebuild_plan.specs.Plan.{appends, attributes, clears, define_length, defines, dispatch, each, event, fill, fillers, has_length, has_prototype, init, listens, makes, prevent, set_value, starts, statements_of, thing_place, timers, whole}
use Rattle.rebuild_plan.specs.Timers.{moved_timers}
use Rattle.rebuild_plan.specs.declared.phase.Phase.{Phase}
use Rattle.rebuild_plan.specs.declared.phase.Phase.TheVariants as phase
use Rattle.rebuild_plan.specs.declared.statement.Maker.{Maker}
use Rattle.rebuild_plan.specs.declared.statement.Maker.TheVariants as made
use Rattle.rebuild_plan.specs.declared.statement.Rebuild.{Rebuild}
use Rattle.rebuild_plan.specs.declared.statement.Rebuild.TheVariants.{Clear, Init, Prevent}
use Rattle.rebuild_plan.proofs.Family.{all_kids, all_nodes, document_class, kids, kids_as, kids_few, nodes_as}
use Rattle.rebuild_plan.proofs.Marking.{greatest_moved}

-- ---- properties

defines_count : (a b : Bool) (at : ObjId) (things : List ℕ) (ps : Props)
    → length (defines a b at (moved_props things ps)) ≤ (props_load (written a ps)).things
defines_count a b at things [] = omega arith
defines_count a b at things (e ∷ es) = by (a && bytes_eq e.0 length_name) refl (b && bytes_eq e.0 prototype_name) refl (defines_count a b at things es)
  where
    by : (c : Bool) → (a && bytes_eq e.0 length_name) ≡ c → (d : Bool) → (b && bytes_eq e.0 prototype_name) ≡ d
        → length (defines a b at (moved_props things es)) ≤ (props_load (written a es)).things
        → length (defines a b at (moved_props things (e ∷ es))) ≤ (props_load (written a (e ∷ es))).things
    by true is d other others = rw is others
    by false is true other others = rw (is, other) (omega (arith, others))
    by false is false other others = rw (is, other) (omega (arith, others))

all_written : (ps : Props) → written false ps ≡ ps
all_written [] = refl
all_written (e ∷ es) = ap (λ l. e ∷ l) (all_written es)

fewer_written : (ps : Props) → (props_load (written true ps)).things ≤ (props_load ps).things
fewer_written [] = omega arith
fewer_written (e ∷ es) = by (bytes_eq e.0 length_name) refl (fewer_written es)
  where
    by : (c : Bool) → bytes_eq e.0 length_name ≡ c → (props_load (written true es)).things ≤ (props_load es).things
        → (props_load (written true (e ∷ es))).things ≤ (props_load (e ∷ es)).things
    by true is others = rw is (omega (arith, others))
    by false is others = rw is (omega (arith, others))

-- an array, whose length is defined last
abbrev list_count_of : ObjId → Props → ℕ
list_count_of at props = length (defines true false at props) + length (define_length made.List at (own_property props length_name))

list_count : (at : ObjId) (things : List ℕ) (ps : Props) → list_count_of at (moved_props things ps) ≤ (props_load ps).things
list_count at things [] = omega arith
list_count at things (e ∷ es) = by (bytes_eq e.0 length_name) refl (bytes_eq length_name e.0) refl (list_count at things es)
  where
    by : (c : Bool) → bytes_eq e.0 length_name ≡ c → (d : Bool) → bytes_eq length_name e.0 ≡ d
        → list_count_of at (moved_props things es) ≤ (props_load es).things
        → list_count_of at (moved_props things (e ∷ es)) ≤ (props_load (e ∷ es)).things
    by true is true found others = rw (is, found) (omega (arith, defines_count true false at things es, fewer_written es))
    by true is false other others = rw (is, other) (omega (arith, others))
    by false other true found others =
        let same : e.0 ≡ length_name = sym ((bytes_eq-Decides length_name e.0).0 found) in
        cc (sym other ∙ (bytes_eq-Decides e.0 length_name).1 same)
    by false is false other others = rw (is, other) (omega (arith, others))

fill_count : (s : Store) (things : List ℕ) (at : ObjId) (o : Object)
    → length (fill at (thing_of s things o)) ≤ (props_load (written_of o)).things
fill_count s things at o = by o.class
  where
    props : Props
    props = moved_props things o.props

    made_with : Maker → List Rebuild
    made_with m = defines (has_length m) (has_prototype m) at props ++ define_length m at (own_property props length_name)

    filled : Class → List Rebuild
    filled c = made_with (maker_as s things o.proto c)

    plain : length (defines false false at props ++ []) ≤ (props_load (written false o.props)).things
    plain = omega (arith, length-append (defines false false at props) [], defines_count false false at things o.props)

    by_kind : (k : Kind) → length (made_with (node_maker things o.proto k)) ≤ (props_load (written false o.props)).things
    by_kind kind.Document = plain
    by_kind (kind.Element name) = plain
    by_kind (kind.Text text) = plain
    by_kind (kind.Comment text) = plain

    by : (c : Class) → length (filled c) ≤ (props_load (written (has_made_length c) o.props)).things
    by class.List =
        let last : List Rebuild = define_length made.List at (own_property props length_name) in
        omega (
          arith,
          length-append (defines true false at props) last,
          list_count at things o.props,
          ap (λ l. (props_load l).things) (all_written o.props),
        )
    by (class.Page c env) = omega (arith, length-append (defines true true at props) [], defines_count true true at things o.props)
    by (class.Bound target this args) = omega (arith, length-append (defines true false at props) [], defines_count true false at things o.props)
    by (class.Node k) = by_kind (node_at s.host.nodes k.0).content.kind
    by c = plain

-- ---- nodes, events and timers

appends_count : (at : ObjId) (things : List ℕ) (objects : List ObjId) (ks : List NodeId) → length (appends at (moved_nodes things objects ks)) ≡ length ks
appends_count at things objects [] = refl
appends_count at things objects (k ∷ ks) = ap suc (appends_count at things objects ks)

children_count : (at : ObjId) (things : List ℕ) (h : Host) (c : Class) → length (appends at (node_as h things c).children) ≡ length (kids_as h.nodes c)
children_count at things h (class.Node k) = appends_count at things h.objects (children_at h.nodes k.0)
children_count at things h c = refl

attributes_count : (at : ObjId) (as' : Pairs) → length (attributes at as') ≤ (attributes_load as').things
attributes_count at [] = omega arith
attributes_count at (a ∷ as') = omega (arith, attributes_count at as')

value_count : (at : ObjId) (text : Option (List ℕ)) → length (set_value at text) ≤ 1
value_count at None = omega arith
value_count at (Some text) = omega arith

listens_count : (at : ObjId) (things : List ℕ) (ls : List Listener) → length (listens at (moved_listeners things ls)) ≤ (listeners_load ls).things
listens_count at things [] = omega arith
listens_count at things (l ∷ ls) = omega (arith, listens_count at things ls)

event_count : (at : ObjId) (things : List ℕ) (parts : EventParts) → length (event at (Some (event_of things parts))) ≤ 2
event_count at things parts = omega (arith, length-append (init at e) (dispatch at e.target), first parts.begun, second (moved_proto things parts.target))
  where
    e : SavedEvent
    e = event_of things parts

    first : (b : Bool) → length (if b then Init at e.kind e.bubbles e.cancelable ∷ [] else []) ≤ 1
    first true = omega arith
    first false = omega arith

    second : (target : Option ObjId) → length (dispatch at target) ≤ 1
    second None = omega arith
    second (Some target) = omega arith

set_things : (text : Option (List ℕ)) → (set_load text).things ≡ 0
set_things None = refl
set_things (Some text) = refl

kind_things : (k : Kind) → (kind_load k).things ≡ 0
kind_things kind.Document = refl
kind_things (kind.Element name) = refl
kind_things (kind.Text text) = refl
kind_things (kind.Comment text) = refl

fillers_count : (n : ℕ) → length (fillers n) ≡ n
fillers_count zero = refl
fillers_count (suc n) = ap suc (fillers_count n)

starts_count : (things : List ℕ) (clock : ℕ) (ts : List Live) → length (starts (moved_timers things clock ts)) ≡ 2 * length ts
starts_count things clock [] = refl
starts_count things clock (t ∷ ts) = omega (arith, starts_count things clock ts)

clears_count : (n id : ℕ) (ts : List Live) → length (clears n id ts) ≤ n
clears_count zero id ts = omega arith
clears_count (suc n) id ts = omega (arith, length-append (one (is_live ts id)) (clears n (id + 1) ts), first (is_live ts id), clears_count n (id + 1) ts)
  where
    one : Bool → List Rebuild
    one b = if b then [] else Clear id ∷ []

    first : (b : Bool) → length (one b) ≤ 1
    first true = omega arith
    first false = omega arith

timers_count : (things : List ℕ) (clock : ℕ) (ts : List Live) → length (timers (moved_timers things clock ts)) ≤ 2 * (timers_load ts).things
timers_count things clock ts =
    let moved_ones : List Live = moved_timers things clock ts in
    let n : ℕ = greatest moved_ones in
    omega (
      arith,
      length-append (fillers n) (starts moved_ones ++ clears n 1 moved_ones),
      length-append (starts moved_ones) (clears n 1 moved_ones),
      fillers_count n,
      starts_count things clock ts,
      clears_count n 1 moved_ones,
      greatest_moved things clock ts,
    )

prevent_count : (at : ObjId) (t : Thing) → length (prevent at t) ≤ 1
prevent_count at t = by t.extensible
  where
    by : (b : Bool) → length (if b then [] else Prevent at ∷ []) ≤ 1
    by true = omega arith
    by false = omega arith

-- ---- one object

-- what is written of it as a node and an event, but for its children
abbrev hosted_count : ObjId → Host → List ℕ → Class → ℕ
hosted_count at h things c =
    length (attributes at (node_as h things c).attributes) + length (set_value at (node_as h things c).value)
    + (length (event at (event_as things c)) + length (listens at (node_as h things c).listeners))

-- a node has one statement more at most than what is counted, an event two, and any other object none
hosted_few : (at : ObjId) (s : Store) (things : List ℕ) (c : Class) → hosted_count at s.host things c + length (nodes_as c) ≤ (class_load s c).things + 2
hosted_few at s things (class.Node k) =
    let content = (node_at s.host.nodes k.0).content in
    omega (
      arith,
      attributes_count at content.attributes,
      value_count at content.value,
      listens_count at things (heard_at k.0 s.host.listeners),
      kind_things content.kind,
      set_things content.value,
    )
hosted_few at s things (class.Event parts) = omega (arith, event_count at things parts)
hosted_few at s things class.Plain = omega arith
hosted_few at s things class.List = omega arith
hosted_few at s things (class.Page c env) = omega arith
hosted_few at s things (class.Native which) = omega arith
hosted_few at s things (class.Bound target this args) = omega arith
hosted_few at s things class.Fault = omega arith
hosted_few at s things class.Math = omega arith
hosted_few at s things class.Window = omega arith

-- ---- all objects

-- the statements of a phase for these things, the first of which has the number n
abbrev phase_count : Phase → ℕ → List Thing → ℕ
phase_count p n ts = length (each p n ts)

abbrev own_count : ℕ → List Thing → ℕ
own_count n ts =
    length (makes n ts) + (phase_count phase.Contents n ts + (phase_count phase.Events n ts + (phase_count phase.Listeners n ts + (phase_count phase.Properties n ts + phase_count phase.Ends n ts))))

own_few : (s : Store) (things ks : List ℕ) (n : ℕ) → own_count n (things_at s things ks) + length (all_nodes s ks) ≤ 4 * (things_load s ks).things
own_few s things [] n = omega arith
own_few s things (k ∷ ks) n =
    let o : Object = object_at s.heap.objects k in
    let at : ObjId = thing_place n in
    let t : Thing = thing_of s things o in
    let ts : List Thing = things_at s things ks in
    omega (
      arith,
      own_few s things ks (suc n),
      hosted_few at s things o.class,
      fill_count s things at o,
      prevent_count at t,
      length-append (attributes at t.node.attributes) (set_value at t.node.value),
      length-append (statements_of phase.Contents at t) (each phase.Contents (suc n) ts),
      length-append (statements_of phase.Events at t) (each phase.Events (suc n) ts),
      length-append (statements_of phase.Listeners at t) (each phase.Listeners (suc n) ts),
      length-append (statements_of phase.Properties at t) (each phase.Properties (suc n) ts),
      length-append (statements_of phase.Ends at t) (each phase.Ends (suc n) ts),
      length-append (nodes_as o.class) (all_nodes s ks),
    )

-- the children of these
children_few : (s : Store) (things ks : List ℕ) (n : ℕ) → phase_count phase.Children n (things_at s things ks) ≡ length (all_kids s ks)
children_few s things [] n = refl
children_few s things (k ∷ ks) n =
    let o : Object = object_at s.heap.objects k in
    let at : ObjId = thing_place n in
    let t : Thing = thing_of s things o in
    omega (
      arith,
      children_few s things ks (suc n),
      children_count at things s.host o.class,
      length-append (statements_of phase.Children at t) (each phase.Children (suc n) (things_at s things ks)),
      length-append (kids s k) (all_kids s ks),
    )

-- ---- the document

-- it is no event, and has no value
abbrev document_count : Store → List ℕ → ObjId → Object → ℕ
document_count s things at o =
    let t : Thing = thing_of s things o in
    length (statements_of phase.Contents at t)
    + (length (statements_of phase.Events at t) + (length (statements_of phase.Listeners at t) + (length (statements_of phase.Properties at t) + length (statements_of phase.Ends at t))))

no_value : (c : Content) → is_document c.kind ≡ true → is_proper c ≡ true → c.value ≡ None
no_value c document proper = by c.kind c.value refl document (and_parts _ (takes_value c.kind || is_none c.value) proper).1
  where
    by : (k : Kind) (v : Option (List ℕ)) → c.value ≡ v → is_document k ≡ true → (takes_value k || is_none v) ≡ true → c.value ≡ None
    by kind.Document None e h g = e
    by kind.Document (Some v) e h g = cc g
    by (kind.Element name) v e h g = cc h
    by (kind.Text text) v e h g = cc h
    by (kind.Comment text) v e h g = cc h

-- ---- the whole plan

pub plans_are_few : PlansAreFew
plans_are_few s things still walk =
    omega (
      arith,
      length-append (makes 0 ts) (whole phase.Children c ++ after_children),
      length-append (whole phase.Children c) after_children,
      length-append (whole phase.Contents c) after_contents,
      length-append (whole phase.Events c) after_events,
      length-append (whole phase.Listeners c) after_listeners,
      length-append globals after_globals,
      length-append (whole phase.Properties c) after_properties,
      length-append (timers c.timers) (whole phase.Ends c),
      phase_length phase.Children,
      phase_length phase.Contents,
      phase_length phase.Events,
      phase_length phase.Listeners,
      phase_length phase.Properties,
      phase_length phase.Ends,
      defines_count false false window things (globals_of s),
      ap (λ l. (props_load l).things) (all_written (globals_of s)),
      timers_count things s.host.clock s.host.timers,
      own_few s things things 0,
      children_few s things things 0,
      children_count document things s.host o.class,
      length-append (kids s document.0) (all_kids s things),
      kids_few s things still walk,
      document_few,
    )
  where
    c : Compact
    c = compact s things

    ts : List Thing
    ts = things_at s things things

    o : Object
    o = object_at s.heap.objects document.0

    t : Thing
    t = thing_of s things o

    globals : List Rebuild
    globals = defines false false window c.globals

    after_properties : List Rebuild
    after_properties = timers c.timers ++ whole phase.Ends c

    after_globals : List Rebuild
    after_globals = whole phase.Properties c ++ after_properties

    after_listeners : List Rebuild
    after_listeners = globals ++ after_globals

    after_events : List Rebuild
    after_events = whole phase.Listeners c ++ after_listeners

    after_contents : List Rebuild
    after_contents = whole phase.Events c ++ after_events

    after_children : List Rebuild
    after_children = whole phase.Contents c ++ after_contents

    phase_length : (p : Phase) → length (whole p c) ≡ length (statements_of p document t) + length (each p 0 ts)
    phase_length p = length-append (statements_of p document t) (each p 0 ts)

    content : Content
    content = (node_at s.host.nodes 0).content

    unset : content.value ≡ None
    unset = no_value content (still.shaped.host.sound.nodes.document 0) (still.shaped.host.sound.nodes.proper 0)

    hosted : (b : Class) → b ≡ class.Node (record { 0 = 0 }) → hosted_count document s.host things b ≤ (class_load s b).things
    hosted b e = subst (λ d. hosted_count document s.host things d ≤ (class_load s d).things) (sym e) (omega (
      arith,
      attributes_count document content.attributes,
      ap (λ v. length (set_value document v)) unset,
      listens_count document things (heard_at 0 s.host.listeners),
      kind_things content.kind,
      set_things content.value,
    ))

    document_few : document_count s things document o ≤ (document_load s).things + 1
    document_few =
        omega (
          arith,
          hosted o.class (document_class s still),
          fill_count s things document o,
          prevent_count document t,
          length-append (attributes document t.node.attributes) (set_value document t.node.value),
        )
