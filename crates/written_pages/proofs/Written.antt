-- What a literal page is rebuilt by can be written.
use Rattle.std.proofs.Common.{subst, ℕ, zero, suc, ◌+◌, ℤ, pos, negsuc, ◌&&◌, Bool, true, false, List, [], ◌∷◌, ◌++◌, Option, Some, None, bytes_eq, nat_eq, option_map, unwrap_or, cond, if◌then◌else◌, arith}
use Rattle.std.specs.List.{All}
use Rattle.std.specs.Map.{lookup}
use Rattle.std.specs.Option.{ForSome}
use Rattle.std.proofs.lemmas.Int.{ints}
use Rattle.std.proofs.lemmas.List.Elements.{All-append, All-cons, All-filter, All-head, All-nil, All-tail}
use Rattle.dom_tree.specs.Attributes.{Pairs}
use Rattle.dom_tree.specs.Node.{node_at}
use Rattle.dom_tree.specs.declared.content.Kind.{Kind}
use Rattle.dom_tree.specs.declared.content.Kind.TheVariants as kind
use Rattle.global_names.specs.Names.{names_global}
use Rattle.heap_walker.specs.Things.{bound_value, bound_values, globals_of, heard_at, made_globals}
use Rattle.heap_walker.specs.Weight.{greatest}
use Rattle.js_core.specs.Text.{AllUnits, Text}
use Rattle.js_core.specs.Whole.{InRange}
use Rattle.js_values.specs.declared.ids.EnvId.{EnvId}
use Rattle.js_values.specs.declared.ids.ObjId.{ObjId}
use Rattle.js_values.specs.declared.value.Value.{Value}
use Rattle.js_values.specs.declared.value.Value.TheVariants.{Undefined, Null, Bool as Truth, Num, Text as Words, Object as Reference}
use Rattle.object_heap.specs.Chain.{object_at}
use Rattle.object_heap.specs.Define.{length_name}
use Rattle.object_heap.specs.Function.{prototype_name}
use Rattle.object_heap.specs.Heap.{look_in}
use Rattle.object_heap.specs.Property.{own_property, Props}
use Rattle.object_heap.specs.declared.object.Class.{Class}
use Rattle.object_heap.specs.declared.object.Class.TheVariants as class
use Rattle.object_heap.specs.declared.property.Prop.{Prop}
use Rattle.page_host.specs.declared.listener.Listener.{Listener}
use Rattle.page_meaning.specs.Places.{document, window}
use Rattle.page_meaning.specs.Store.{Store}
use Rattle.page_writer.specs.Literals.{CanBeWritten, HasLiterals, HaveLiterals, IsLiteral, maker_values, need_values}
use Rattle.rebuild_plan.specs.Compact.{compact, maker_as, moved_needs, moved_props, moved_value, moved_values, Thing, thing_at, things_at}
use Rattle.rebuild_plan.specs.Events.{event_as, SavedEvent}
use Rattle.rebuild_plan.specs.Nodes.{moved_listeners, node_as, node_maker, SavedListener, SavedNode}
use Rattle.rebuild_plan.specs.Plan.{appends, attributes, clears, define, define_length, defines, dispatch, each, event, fillers, has_length, has_prototype, init, listens, makes, plan, set_value, start, starts, statements_of, thing_place, timers, whole}
use Rattle.rebuild_plan.specs.declared.phase.Phase.{Phase}
use Rattle.rebuild_plan.specs.declared.phase.Phase.TheVariants as phase
use Rattle.rebuild_plan.specs.declared.statement.Maker.{Maker}
use Rattle.rebuild_plan.specs.declared.statement.Maker.TheVariants as made
use Rattle.rebuild_plan.specs.declared.statement.Rebuild.{Rebuild}
use Rattle.rebuild_plan.specs.declared.statement.Rebuild.TheVariants.{Append, Attribute, Clear, Define, DefineLength, DefinePrototype, Dispatch, Filler, Init, Listen, Make, Prevent, SetValue}
use Rattle.scope_analysis.specs.Needs.{needed_variables}
use Rattle.timer_queue.specs.Timers.{is_live}
use Rattle.timer_queue.specs.declared.timer.Live.{Live}
use Rattle.literal_values.proofs.Callers.{found_bounded, node_literal, object_literal}
use Rattle.literal_values.specs.Nodes.{LiteralKind, LiteralPairs}
use Rattle.literal_values.specs.Objects.{LiteralClass, LiteralProps, MaybeFound}
use Rattle.literal_values.specs.Stores.{LiteralListener, LiteralStore}
use Rattle.literal_values.specs.Values.{AreBounded, IsBounded, IsNumber, MaybeText}

-- ---- values

some_in : (z : ℤ) → InRange z → ForSome (Some z) InRange
some_in z h y e = subst InRange (cc e) h

number_literal : (n : Option ℤ) → IsNumber n → ForSome n InRange
number_literal None h = λ z e. absurd (cc e)
number_literal (Some (pos n)) h = some_in (pos n) (omega (arith, ints), omega (arith, ints))
number_literal (Some (negsuc n)) h = some_in (negsuc n) (omega (arith, ints), omega (arith, ints))

literal : (v : Value) → IsBounded v → IsLiteral v
literal Undefined h = tt
literal Null h = tt
literal (Truth b) h = tt
literal (Num n) h = number_literal n h
literal (Words t) h = h.0
literal (Reference at) h = tt

moved_literal : (things : List ℕ) (v : Value) → IsLiteral v → IsLiteral (moved_value things v)
moved_literal things Undefined h = tt
moved_literal things Null h = tt
moved_literal things (Truth b) h = tt
moved_literal things (Num n) h = h
moved_literal things (Words t) h = h
moved_literal things (Reference at) h = tt

-- ---- lists of values and of statements

one_value : (v : Value) → IsLiteral v → All IsLiteral (v ∷ [])
one_value v h = All-cons IsLiteral v [] h (All-nil IsLiteral)

two_values : (v w : Value) → IsLiteral v → IsLiteral w → All IsLiteral (v ∷ w ∷ [])
two_values v w h k = All-cons IsLiteral v (w ∷ []) h (one_value w k)

values_literal : (things : List ℕ) (vs : List Value) → AreBounded vs → All IsLiteral (moved_values things vs)
values_literal things [] h = All-nil IsLiteral
values_literal things (v ∷ vs) h = All-cons IsLiteral (moved_value things v) (moved_values things vs) (moved_literal things v (literal v h.0)) (values_literal things vs h.1)

none : HaveLiterals []
none = All-nil HasLiterals

one : (r : Rebuild) → HasLiterals r → HaveLiterals (r ∷ [])
one r h = All-cons HasLiterals r [] h none

follows : (r : Rebuild) (rs : List Rebuild) → HasLiterals r → HaveLiterals rs → HaveLiterals (r ∷ rs)
follows r rs h k = All-cons HasLiterals r rs h k

joined : (rs ss : List Rebuild) → HaveLiterals rs → HaveLiterals ss → HaveLiterals (rs ++ ss)
joined rs ss h k = All-append HasLiterals rs ss h k

no_values : All IsLiteral []
no_values = All-nil IsLiteral

if_have : (b : Bool) (rs ss : List Rebuild) → HaveLiterals rs → HaveLiterals ss → HaveLiterals (if b then rs else ss)
if_have true rs ss h k = h
if_have false rs ss h k = k

-- ---- properties

abbrev LiteralEntries : Props → Type 0
LiteralEntries [] = Unit {0}
LiteralEntries (e ∷ es) = AllUnits e.0 × IsLiteral e.1.value × LiteralEntries es

entries : (es : Props) → LiteralProps es → LiteralEntries es
entries [] h = tt
entries (e ∷ es) h = (h.0.0, literal e.1.value h.1, entries es h.2)

moved_entries : (things : List ℕ) (es : Props) → LiteralEntries es → LiteralEntries (moved_props things es)
moved_entries things [] h = tt
moved_entries things (e ∷ es) h = (h.0, moved_literal things e.1.value h.1, moved_entries things es h.2)

made_entries : (es : Props) → LiteralEntries es → LiteralEntries (made_globals es)
made_entries [] h = tt
made_entries (e ∷ es) h = by_case (names_global e.0) (made_entries es h.2)
  where
    by_case : (b : Bool) → LiteralEntries (made_globals es) → LiteralEntries (if b then made_globals es else (e ∷ made_globals es))
    by_case true rest = rest
    by_case false rest = (h.0, h.1, rest)

abbrev MaybeLiteral : Option Prop → Type 0
MaybeLiteral None = Unit {0}
MaybeLiteral (Some p) = IsLiteral p.value

entry_found : (test : List ℕ → Bool) (es : Props) → LiteralEntries es → MaybeLiteral (lookup test es)
entry_found test [] h = tt
entry_found test (e ∷ es) h = by_case (test e.0) (entry_found test es h.2)
  where
    by_case : (b : Bool) → MaybeLiteral (lookup test es) → MaybeLiteral (cond b (Some e.1) (lookup test es))
    by_case true rest = h.1
    by_case false rest = rest

define_has : (length prototype : Bool) (at : ObjId) (name : Text) (p : Prop) → AllUnits name → IsLiteral p.value → HaveLiterals (define length prototype at name p)
define_has length prototype at name p n v =
    if_have (length && bytes_eq name length_name) []
    (if prototype && bytes_eq name prototype_name then DefinePrototype at p.value p.writable ∷ [] else (Define at name p ∷ [])) none
    (if_have (prototype && bytes_eq name prototype_name) (DefinePrototype at p.value p.writable ∷ []) (Define at name p ∷ [])
    (one (DefinePrototype at p.value p.writable) (one_value p.value v)) (one (Define at name p) (two_values (Words name) p.value n v)))

defines_have : (length prototype : Bool) (at : ObjId) (es : Props) → LiteralEntries es → HaveLiterals (defines length prototype at es)
defines_have length prototype at [] h = none
defines_have length prototype at (e ∷ es) h =
    joined (define length prototype at e.0 e.1) (defines length prototype at es) (define_has length prototype at e.0 e.1 h.0 h.1) (defines_have length prototype at es h.2)

length_has : (m : Maker) (at : ObjId) (p : Option Prop) → MaybeLiteral p → HaveLiterals (define_length m at p)
length_has made.List at (Some p) h = one (DefineLength at p.value p.writable) (one_value p.value h)
length_has made.List at None h = none
length_has (made.Plain proto) at p h = none
length_has (made.Fault k) at p h = none
length_has (made.Func c needs) at p h = none
length_has (made.Bind target this args) at p h = none
length_has (made.Element x) at p h = none
length_has (made.Text t) at p h = none
length_has (made.Comment t) at p h = none
length_has made.Event at p h = none

-- ---- what functions need

module _ (s : Store) (h : LiteralStore s) where
  bound_literal : (env : Option EnvId) (x : Text) → IsLiteral (bound_value s env x)
  bound_literal env x = by_case (look_in s.heap.environments env x) (found_bounded s env x h)
    where
      by_case : (o : Option (EnvId × Value)) → MaybeFound o → IsLiteral (unwrap_or (option_map (λ found. found.1) o) Undefined)
      by_case None i = tt
      by_case (Some b) i = literal b.1 i

  bounds_literal : (things : List ℕ) (env : Option EnvId) (xs : List Text) → All IsLiteral (need_values (moved_needs things (bound_values s env xs)))
  bounds_literal things env [] = no_values
  bounds_literal things env (x ∷ xs) =
      All-cons IsLiteral (moved_value things (bound_value s env x)) (need_values (moved_needs things (bound_values s env xs)))
      (moved_literal things (bound_value s env x) (bound_literal env x)) (bounds_literal things env xs)

  -- ---- things

  kind_values : (things : List ℕ) (proto : Option ObjId) (e : Kind) → LiteralKind e → All IsLiteral (maker_values (node_maker things proto e))
  kind_values things proto kind.Document i = no_values
  kind_values things proto (kind.Element name) i = one_value (Words name) i.0
  kind_values things proto (kind.Text t) i = one_value (Words t) i.0
  kind_values things proto (kind.Comment t) i = one_value (Words t) i.0

  maker_has : (things : List ℕ) (proto : Option ObjId) (c : Class) → LiteralClass c → All IsLiteral (maker_values (maker_as s things proto c))
  maker_has things proto class.List i = no_values
  maker_has things proto class.Fault i = no_values
  maker_has things proto (class.Page c env) i = bounds_literal things env (needed_variables c)
  maker_has things proto (class.Bound target this args) i =
      All-cons IsLiteral (moved_value things this) (moved_values things args) (moved_literal things this (literal this i.0)) (values_literal things args i.1)
  maker_has things proto (class.Node n) i = kind_values things proto (node_at s.host.nodes n.0).content.kind (node_literal s.host.nodes n.0 h.host.nodes).kind
  maker_has things proto (class.Event parts) i = no_values
  maker_has things proto class.Plain i = no_values
  maker_has things proto (class.Native which) i = no_values
  maker_has things proto class.Math i = no_values
  maker_has things proto class.Window i = no_values

-- ---- nodes and events as they are saved

abbrev LiteralListeners : List SavedListener → Type 0
LiteralListeners [] = Unit {0}
LiteralListeners (l ∷ ls) = AllUnits l.kind × LiteralListeners ls

saved_listeners : (things : List ℕ) (ls : List Listener) → All LiteralListener ls → LiteralListeners (moved_listeners things ls)
saved_listeners things [] h = tt
saved_listeners things (l ∷ ls) h = ((All-head LiteralListener l ls h).0, saved_listeners things ls (All-tail LiteralListener l ls h))

record NodeIs (n : SavedNode) : Type 0 where
  attributes : LiteralPairs n.attributes
  value : MaybeText n.value
  listeners : LiteralListeners n.listeners

nothing_saved : NodeIs (record { attributes = []; value = None; children = []; listeners = [] })
nothing_saved = record { attributes = tt; value = tt; listeners = tt }

abbrev EventIs : Option SavedEvent → Type 0
EventIs None = Unit {0}
EventIs (Some e) = AllUnits e.kind

event_is : (things : List ℕ) (c : Class) → LiteralClass c → EventIs (event_as things c)
event_is things (class.Event parts) h = h.0
event_is things class.Plain h = tt
event_is things class.List h = tt
event_is things (class.Page c env) h = tt
event_is things (class.Native which) h = tt
event_is things (class.Bound target this args) h = tt
event_is things class.Fault h = tt
event_is things class.Math h = tt
event_is things class.Window h = tt
event_is things (class.Node n) h = tt

record ThingIs (t : Thing) : Type 0 where
  maker : All IsLiteral (maker_values t.maker)
  node : NodeIs t.node
  event : EventIs t.event
  props : LiteralEntries t.props

module _ (s : Store) (h : LiteralStore s) (things : List ℕ) where
  node_is : (c : Class) → NodeIs (node_as s.host things c)
  node_is (class.Node n) =
      let content = node_literal s.host.nodes n.0 h.host.nodes in
      record {
        attributes = content.attributes;
        value = content.value;
        listeners = saved_listeners things (heard_at n.0 s.host.listeners) (All-filter (λ l. nat_eq n.0 l.node.0) LiteralListener s.host.listeners h.host.listeners);
      }
  node_is class.Plain = nothing_saved
  node_is class.List = nothing_saved
  node_is (class.Page c env) = nothing_saved
  node_is (class.Native which) = nothing_saved
  node_is (class.Bound target this args) = nothing_saved
  node_is class.Fault = nothing_saved
  node_is class.Math = nothing_saved
  node_is class.Window = nothing_saved
  node_is (class.Event parts) = nothing_saved

  object_entries : (place : ℕ) → LiteralEntries (object_at s.heap.objects place).props
  object_entries place = entries (object_at s.heap.objects place).props (object_literal s place h).props

  thing_is : (place : ℕ) → ThingIs (thing_at s things place)
  thing_is place =
      let o = object_at s.heap.objects place in
      let c = (object_literal s place h).class in
      record {
        maker = maker_has s h things o.proto o.class c;
        node = node_is o.class;
        event = event_is things o.class c;
        props = moved_entries things o.props (object_entries place);
      }

-- ---- the phases

quiet_appends : (at : ObjId) (cs : List ObjId) → HaveLiterals (appends at cs)
quiet_appends at [] = none
quiet_appends at (c ∷ cs) = follows (Append at c) (appends at cs) no_values (quiet_appends at cs)

attributes_have : (at : ObjId) (as' : Pairs) → LiteralPairs as' → HaveLiterals (attributes at as')
attributes_have at [] h = none
attributes_have at (a ∷ as') h = follows (Attribute at a.0 a.1) (attributes at as') (two_values (Words a.0) (Words a.1) h.0.0 h.1.0) (attributes_have at as' h.2)

value_has : (at : ObjId) (o : Option Text) → MaybeText o → HaveLiterals (set_value at o)
value_has at None h = none
value_has at (Some t) h = one (SetValue at t) (one_value (Words t) h.0)

listens_have : (at : ObjId) (ls : List SavedListener) → LiteralListeners ls → HaveLiterals (listens at ls)
listens_have at [] h = none
listens_have at (l ∷ ls) h = follows (Listen at l.kind l.call l.capture) (listens at ls) (one_value (Words l.kind) h.0) (listens_have at ls h.1)

quiet_dispatch : (at : ObjId) (o : Option ObjId) → HaveLiterals (dispatch at o)
quiet_dispatch at None = none
quiet_dispatch at (Some target) = one (Dispatch target at) no_values

event_has : (at : ObjId) (o : Option SavedEvent) → EventIs o → HaveLiterals (event at o)
event_has at None h = none
event_has at (Some e) h =
    joined (init at e) (dispatch at e.target)
    (if_have e.begun (Init at e.kind e.bubbles e.cancelable ∷ []) [] (one (Init at e.kind e.bubbles e.cancelable) (one_value (Words e.kind) h)) none) (quiet_dispatch at e.target)

statements_have : (p : Phase) (at : ObjId) (t : Thing) → ThingIs t → HaveLiterals (statements_of p at t)
statements_have phase.Children at t h = quiet_appends at t.node.children
statements_have phase.Contents at t h =
    joined (attributes at t.node.attributes) (set_value at t.node.value) (attributes_have at t.node.attributes h.node.attributes) (value_has at t.node.value h.node.value)
statements_have phase.Events at t h = event_has at t.event h.event
statements_have phase.Listeners at t h = listens_have at t.node.listeners h.node.listeners
statements_have phase.Properties at t h =
    joined (defines (has_length t.maker) (has_prototype t.maker) at t.props) (define_length t.maker at (own_property t.props length_name))
    (defines_have (has_length t.maker) (has_prototype t.maker) at t.props h.props)
    (length_has t.maker at (own_property t.props length_name) (entry_found (bytes_eq length_name) t.props h.props))
statements_have phase.Ends at t h = if_have t.extensible [] (Prevent at ∷ []) none (one (Prevent at) no_values)

quiet_fillers : (n : ℕ) → HaveLiterals (fillers n)
quiet_fillers zero = none
quiet_fillers (suc n) = follows Filler (fillers n) no_values (quiet_fillers n)

quiet_start : (t : Live) (o : Option ℕ) → HasLiterals (start t o)
quiet_start t None = no_values
quiet_start t (Some period) = no_values

quiet_starts : (ts : List Live) → HaveLiterals (starts ts)
quiet_starts [] = none
quiet_starts (t ∷ ts) = follows (Clear t.id) (start t t.period ∷ starts ts) no_values (follows (start t t.period) (starts ts) (quiet_start t t.period) (quiet_starts ts))

quiet_clears : (n id : ℕ) (ts : List Live) → HaveLiterals (clears n id ts)
quiet_clears zero id ts = none
quiet_clears (suc n) id ts =
    joined (if is_live ts id then [] else (Clear id ∷ [])) (clears n (id + 1) ts) (if_have (is_live ts id) [] (Clear id ∷ []) none (one (Clear id) no_values)) (quiet_clears n (id + 1) ts)

quiet_timers : (ts : List Live) → HaveLiterals (timers ts)
quiet_timers ts =
    joined (fillers (greatest ts)) (starts ts ++ clears (greatest ts) 1 ts) (quiet_fillers (greatest ts))
    (joined (starts ts) (clears (greatest ts) 1 ts) (quiet_starts ts) (quiet_clears (greatest ts) 1 ts))

-- ---- the plan

record Have (rs : List Rebuild) : Type 0 where
  have : HaveLiterals rs

wrapped : (rs : List Rebuild) → HaveLiterals rs → Have rs
wrapped rs h = record { have = h }

both : {rs ss : List Rebuild} → Have rs → Have ss → Have (rs ++ ss)
both {rs = rs} {ss = ss} h k = record { have = joined rs ss h.have k.have }

module _ (s : Store) (h : LiteralStore s) (things : List ℕ) where
  makes_have : (n : ℕ) (places : List ℕ) → HaveLiterals (makes n (things_at s things places))
  makes_have n [] = none
  makes_have n (p ∷ ps) =
      follows (Make n (thing_at s things p).maker) (makes (suc n) (things_at s things ps)) (thing_is s h things p).maker (makes_have (suc n) ps)

  each_has : (p : Phase) (n : ℕ) (places : List ℕ) → HaveLiterals (each p n (things_at s things places))
  each_has p n [] = none
  each_has p n (q ∷ qs) =
      joined (statements_of p (thing_place n) (thing_at s things q)) (each p (suc n) (things_at s things qs))
      (statements_have p (thing_place n) (thing_at s things q) (thing_is s h things q)) (each_has p (suc n) qs)

  whole_has : (p : Phase) → HaveLiterals (whole p (compact s things))
  whole_has p =
      joined (statements_of p document (thing_at s things document.0)) (each p 0 (things_at s things things))
      (statements_have p document (thing_at s things document.0) (thing_is s h things document.0)) (each_has p 0 things)

  globals_have : HaveLiterals (defines false false window (compact s things).globals)
  globals_have = defines_have false false window (compact s things).globals (moved_entries things (globals_of s) (made_entries _ (object_entries s h things window.0)))

  pub plan_has : HaveLiterals (plan (compact s things))
  plan_has =
      let c = compact s things in
      let last = both (wrapped (timers c.timers) (quiet_timers c.timers)) (wrapped (whole phase.Ends c) (whole_has phase.Ends)) in
      let defined = both (wrapped (defines false false window c.globals) globals_have) (both (wrapped (whole phase.Properties c) (whole_has phase.Properties)) last) in
      let hears = both (wrapped (whole phase.Events c) (whole_has phase.Events)) (both (wrapped (whole phase.Listeners c) (whole_has phase.Listeners)) defined) in
      let grown = both (wrapped (whole phase.Children c) (whole_has phase.Children)) (both (wrapped (whole phase.Contents c) (whole_has phase.Contents)) hears) in
      (both (wrapped (makes 0 c.things) (makes_have 0 things)) grown).have

pub can_be_written : (s : Store) → LiteralStore s → CanBeWritten s
can_be_written s h things walk = plan_has s h things
