-- The statements of a plan after those that make its things make nothing.
use Rattle.std.proofs.Common.{◌≡◌, refl, ℕ, zero, suc, ◌+◌, Bool, true, false, ◌&&◌, All, List, [], ◌∷◌, ◌++◌, Option, Some, None, bytes_eq, if◌then◌else◌}
use Rattle.std.proofs.lemmas.List.Elements.{All-append, All-cons, All-nil}
use Rattle.dom_tree.specs.Attributes.{Pairs}
use Rattle.js_values.specs.declared.ids.ObjId.{ObjId}
use Rattle.object_heap.specs.Define.{length_name}
use Rattle.object_heap.specs.Function.{prototype_name}
use Rattle.object_heap.specs.Property.{Props, own_property}
use Rattle.object_heap.specs.declared.property.Prop.{Prop}
use Rattle.page_meaning.specs.Places.{document, window}
use Rattle.heap_walker.specs.Weight.{greatest}
use Rattle.timer_queue.specs.Timers.{is_live}
use Rattle.timer_queue.specs.declared.timer.Live.{Live}
use Rattle.rebuild_plan.specs.Compact.{Compact, Thing}
use Rattle.rebuild_plan.specs.Events.{SavedEvent}
use Rattle.rebuild_plan.specs.Nodes.{SavedListener}
use Rattle.rebuild_plan.specs.Plan.{appends, attributes, clears, define, define_length, defines, dispatch, each, event, fill, fillers, has_length, has_prototype, init, listens, prevent, set_value, start, starts, statements_of, thing_place, timers, whole}
use Rattle.rebuild_plan.specs.Stands.{made_by}
use Rattle.rebuild_plan.specs.declared.phase.Phase.{Phase}
use Rattle.rebuild_plan.specs.declared.phase.Phase.TheVariants as phase
use Rattle.rebuild_plan.specs.declared.statement.Maker.{Maker}
use Rattle.rebuild_plan.specs.declared.statement.Maker.TheVariants as made
use Rattle.rebuild_plan.specs.declared.statement.Rebuild.{Rebuild}
use Rattle.rebuild_plan.specs.declared.statement.Rebuild.TheVariants.{Append, Attribute, SetValue, Init, Dispatch, Listen, Define, DefinePrototype, DefineLength, Filler, Clear, Prevent}

abbrev pub MakesNothing : Rebuild → Type 0
MakesNothing r = made_by r ≡ 0

-- ---- statements for one object

none_after : (r : Rebuild) → MakesNothing r → All MakesNothing (r ∷ [])
none_after r h = All-cons MakesNothing r [] h (All-nil MakesNothing)

appends_make_nothing : (at : ObjId) (cs : List ObjId) → All MakesNothing (appends at cs)
appends_make_nothing at [] = All-nil MakesNothing
appends_make_nothing at (c ∷ cs) = All-cons MakesNothing (Append at c) (appends at cs) refl (appends_make_nothing at cs)

attributes_make_nothing : (at : ObjId) (as' : Pairs) → All MakesNothing (attributes at as')
attributes_make_nothing at [] = All-nil MakesNothing
attributes_make_nothing at (a ∷ as') = All-cons MakesNothing (Attribute at a.0 a.1) (attributes at as') refl (attributes_make_nothing at as')

set_make_nothing : (at : ObjId) (value : Option (List ℕ)) → All MakesNothing (set_value at value)
set_make_nothing at None = All-nil MakesNothing
set_make_nothing at (Some text) = none_after (SetValue at text) refl

listens_make_nothing : (at : ObjId) (ls : List SavedListener) → All MakesNothing (listens at ls)
listens_make_nothing at [] = All-nil MakesNothing
listens_make_nothing at (l ∷ ls) = All-cons MakesNothing (Listen at l.kind l.call l.capture) (listens at ls) refl (listens_make_nothing at ls)

init_make_nothing : (at : ObjId) (e : SavedEvent) → All MakesNothing (init at e)
init_make_nothing at e = chosen e.begun
  where
    chosen : (b : Bool) → All MakesNothing (if b then (Init at e.kind e.bubbles e.cancelable ∷ []) else [])
    chosen true = none_after (Init at e.kind e.bubbles e.cancelable) refl
    chosen false = All-nil MakesNothing

dispatch_make_nothing : (at : ObjId) (target : Option ObjId) → All MakesNothing (dispatch at target)
dispatch_make_nothing at None = All-nil MakesNothing
dispatch_make_nothing at (Some target) = none_after (Dispatch target at) refl

event_make_nothing : (at : ObjId) (e : Option SavedEvent) → All MakesNothing (event at e)
event_make_nothing at None = All-nil MakesNothing
event_make_nothing at (Some e) = All-append MakesNothing (init at e) (dispatch at e.target) (init_make_nothing at e) (dispatch_make_nothing at e.target)

define_make_nothing : (a b : Bool) (at : ObjId) (x : List ℕ) (p : Prop) → All MakesNothing (define a b at x p)
define_make_nothing a b at x p = chosen (a && bytes_eq x length_name) (b && bytes_eq x prototype_name)
  where
    chosen : (c d : Bool) → All MakesNothing (if c then [] else (if d then (DefinePrototype at p.value p.writable ∷ []) else (Define at x p ∷ [])))
    chosen true d = All-nil MakesNothing
    chosen false true = none_after (DefinePrototype at p.value p.writable) refl
    chosen false false = none_after (Define at x p) refl

defines_make_nothing : (a b : Bool) (at : ObjId) (props : Props) → All MakesNothing (defines a b at props)
defines_make_nothing a b at [] = All-nil MakesNothing
defines_make_nothing a b at (e ∷ es) =
    All-append MakesNothing (define a b at e.0 e.1) (defines a b at es) (define_make_nothing a b at e.0 e.1) (defines_make_nothing a b at es)

length_make_nothing : (m : Maker) (at : ObjId) (p : Option Prop) → All MakesNothing (define_length m at p)
length_make_nothing made.List at (Some p) = none_after (DefineLength at p.value p.writable) refl
length_make_nothing made.List at None = All-nil MakesNothing
length_make_nothing (made.Plain proto) at p = All-nil MakesNothing
length_make_nothing (made.Fault kind) at p = All-nil MakesNothing
length_make_nothing (made.Func c needs) at p = All-nil MakesNothing
length_make_nothing (made.Bind target this args) at p = All-nil MakesNothing
length_make_nothing (made.Element x) at p = All-nil MakesNothing
length_make_nothing (made.Text x) at p = All-nil MakesNothing
length_make_nothing (made.Comment x) at p = All-nil MakesNothing
length_make_nothing made.Event at p = All-nil MakesNothing

fill_make_nothing : (at : ObjId) (t : Thing) → All MakesNothing (fill at t)
fill_make_nothing at t =
    let props : List Rebuild = defines (has_length t.maker) (has_prototype t.maker) at t.props in
    let length : List Rebuild = define_length t.maker at (own_property t.props length_name) in
    All-append MakesNothing props length (defines_make_nothing (has_length t.maker) (has_prototype t.maker) at t.props)
    (length_make_nothing t.maker at (own_property t.props length_name))

prevent_make_nothing : (at : ObjId) (t : Thing) → All MakesNothing (prevent at t)
prevent_make_nothing at t = chosen t.extensible
  where
    chosen : (b : Bool) → All MakesNothing (if b then [] else (Prevent at ∷ []))
    chosen true = All-nil MakesNothing
    chosen false = none_after (Prevent at) refl

-- ---- phases

statements_make_nothing : (p : Phase) (at : ObjId) (t : Thing) → All MakesNothing (statements_of p at t)
statements_make_nothing phase.Children at t = appends_make_nothing at t.node.children
statements_make_nothing phase.Contents at t =
    All-append MakesNothing (attributes at t.node.attributes) (set_value at t.node.value) (attributes_make_nothing at t.node.attributes) (set_make_nothing at t.node.value)
statements_make_nothing phase.Events at t = event_make_nothing at t.event
statements_make_nothing phase.Listeners at t = listens_make_nothing at t.node.listeners
statements_make_nothing phase.Properties at t = fill_make_nothing at t
statements_make_nothing phase.Ends at t = prevent_make_nothing at t

each_make_nothing : (p : Phase) (n : ℕ) (ts : List Thing) → All MakesNothing (each p n ts)
each_make_nothing p n [] = All-nil MakesNothing
each_make_nothing p n (t ∷ ts) =
    All-append MakesNothing (statements_of p (thing_place n) t) (each p (suc n) ts) (statements_make_nothing p (thing_place n) t) (each_make_nothing p (suc n) ts)

whole_make_nothing : (p : Phase) (c : Compact) → All MakesNothing (whole p c)
whole_make_nothing p c = All-append MakesNothing (statements_of p document c.document) (each p 0 c.things) (statements_make_nothing p document c.document) (each_make_nothing p 0 c.things)

-- ---- timers

fillers_make_nothing : (n : ℕ) → All MakesNothing (fillers n)
fillers_make_nothing zero = All-nil MakesNothing
fillers_make_nothing (suc n) = All-cons MakesNothing Filler (fillers n) refl (fillers_make_nothing n)

start_make_nothing : (t : Live) (period : Option ℕ) → MakesNothing (start t period)
start_make_nothing t None = refl
start_make_nothing t (Some n) = refl

starts_make_nothing : (ts : List Live) → All MakesNothing (starts ts)
starts_make_nothing [] = All-nil MakesNothing
starts_make_nothing (t ∷ ts) =
    All-cons MakesNothing (Clear t.id) (start t t.period ∷ starts ts) refl
    (All-cons MakesNothing (start t t.period) (starts ts) (start_make_nothing t t.period) (starts_make_nothing ts))

clears_make_nothing : (n id : ℕ) (ts : List Live) → All MakesNothing (clears n id ts)
clears_make_nothing zero id ts = All-nil MakesNothing
clears_make_nothing (suc n) id ts =
    All-append MakesNothing (if is_live ts id then [] else (Clear id ∷ [])) (clears n (id + 1) ts) (chosen (is_live ts id)) (clears_make_nothing n (id + 1) ts)
  where
    chosen : (b : Bool) → All MakesNothing (if b then [] else (Clear id ∷ []))
    chosen true = All-nil MakesNothing
    chosen false = none_after (Clear id) refl

timers_make_nothing : (ts : List Live) → All MakesNothing (timers ts)
timers_make_nothing ts =
    let last : List Rebuild = clears (greatest ts) 1 ts in
    All-append MakesNothing (fillers (greatest ts)) (starts ts ++ last) (fillers_make_nothing (greatest ts))
    (All-append MakesNothing (starts ts) last (starts_make_nothing ts) (clears_make_nothing (greatest ts) 1 ts))

-- ---- the plan

-- what follows the statements that make the things
abbrev pub later : Compact → List Rebuild
later c =
    whole phase.Children c
    ++ (whole phase.Contents c
    ++ (whole phase.Events c
    ++ (whole phase.Listeners c
    ++ (defines false false window c.globals
    ++ (whole phase.Properties c
    ++ (timers c.timers
    ++ whole phase.Ends c))))))

pub later_makes_nothing : (c : Compact) → All MakesNothing (later c)
later_makes_nothing c =
    let ends : List Rebuild = whole phase.Ends c in
    let alarms : List Rebuild = timers c.timers ++ ends in
    let filled : List Rebuild = whole phase.Properties c ++ alarms in
    let globals : List Rebuild = defines false false window c.globals ++ filled in
    let heard : List Rebuild = whole phase.Listeners c ++ globals in
    let sent : List Rebuild = whole phase.Events c ++ heard in
    let put : List Rebuild = whole phase.Contents c ++ sent in
    All-append MakesNothing (whole phase.Children c) put (whole_make_nothing phase.Children c)
    (All-append MakesNothing (whole phase.Contents c) sent (whole_make_nothing phase.Contents c)
    (All-append MakesNothing (whole phase.Events c) heard (whole_make_nothing phase.Events c)
    (All-append MakesNothing (whole phase.Listeners c) globals (whole_make_nothing phase.Listeners c)
    (All-append MakesNothing (defines false false window c.globals) filled (defines_make_nothing false false window c.globals)
    (All-append MakesNothing (whole phase.Properties c) alarms (whole_make_nothing phase.Properties c)
    (All-append MakesNothing (timers c.timers) ends (timers_make_nothing c.timers) (whole_make_nothing phase.Ends c)))))))
