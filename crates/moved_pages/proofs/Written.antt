-- The statements that rebuild a page at rest can be written, where its functions can be made again and it is no larger than a saved page may be.
use Rattle.std.proofs.Common.{◌≡◌, inl, inr, refl, sym, ap, subst, ◌∙◌, ℕ, zero, suc, ◌+◌, ◌-◌, ◌<◌, ◌≤◌, ℤ, pos, negsuc, Bool, true, false, ◌&&◌, nat_eq, nat_le, nat_lt, List, [], ◌∷◌, ◌++◌, Option, Some, None, length, bytes_eq, if◌then◌else◌, arith}
use Rattle.std.specs.Prelude.{⊤}
use Rattle.std.specs.List.{All, list_all}
use Rattle.std.specs.Option.{ForSome}
use Rattle.std.proofs.lemmas.Bool.{and_from, and_parts, eq-eqb, le-leb, lt-ltb, ltb-true, or_left, or_right}
use Rattle.std.proofs.lemmas.Int.{ints}
use Rattle.std.proofs.lemmas.List.Elements.{All-cons, All-head, All-nil, All-tail}
use Rattle.std.proofs.lemmas.List.Folds.{list_all-append}
use Rattle.heap_walker.specs.Remade.{AllCanBeRemade}
use Rattle.heap_walker.specs.Still.{Still}
use Rattle.heap_walker.specs.Things.{IsWalk, bound_values, is_in, needs_links}
use Rattle.heap_walker.specs.Weight.{greatest, load_of, things_load}
use Rattle.dom_tree.specs.Attributes.{Pairs}
use Rattle.dom_tree.specs.Node.{node_at}
use Rattle.dom_tree.specs.declared.content.Kind.{Kind}
use Rattle.dom_tree.specs.declared.content.Kind.TheVariants as kind
use Rattle.js_core.specs.Height.{code_height}
use Rattle.js_core.specs.Text.{AllUnits}
use Rattle.js_core.specs.Tree.{Code, func}
use Rattle.js_core.specs.Whole.{InRange, largest}
use Rattle.js_grammar.specs.Syntax.{IsExpr, is_identifier}
use Rattle.js_lexer.specs.Written.{is_unit}
use Rattle.js_values.specs.declared.ids.EnvId.{EnvId}
use Rattle.js_values.specs.declared.ids.ObjId.{ObjId}
use Rattle.js_values.specs.declared.value.Value.{Value}
use Rattle.js_values.specs.declared.value.Value.TheVariants as value
use Rattle.object_heap.specs.Chain.{object_at}
use Rattle.object_heap.specs.Define.{length_name}
use Rattle.object_heap.specs.Function.{prototype_name}
use Rattle.object_heap.specs.Property.{Props, own_property}
use Rattle.object_heap.specs.declared.object.Class.{Class}
use Rattle.object_heap.specs.declared.object.Class.TheVariants as class
use Rattle.object_heap.specs.declared.property.Prop.{Prop}
use Rattle.object_shapes.specs.Links.{all_below, proto_links, value_links, values_links}
use Rattle.page_host.specs.Steps.{time_limit}
use Rattle.page_meaning.specs.Places.{built_in_count, document, window}
use Rattle.page_meaning.specs.Store.{Store}
use Rattle.page_rest.specs.Laws.{HasSyntax}
use Rattle.page_writer.specs.FormScripts.{AreWritten}
use Rattle.page_writer.specs.Literals.{HasLiterals, HaveLiterals, IsLiteral, maker_values, need_values}
use Rattle.page_writer.specs.Sizes.{things_limit}
use Rattle.page_writer.specs.Statements.{need_names}
use Rattle.page_writer.specs.Writable.{IsWritable, IsWritableMaker, is_need, is_number, is_place, is_prototype, is_thing_number, is_writable_value}
use Rattle.rebuild_plan.specs.Compact.{Compact, Thing, compact, first_thing, maker_as, maker_at, moved_needs, things_at}
use Rattle.rebuild_plan.specs.Events.{SavedEvent}
use Rattle.rebuild_plan.specs.Nodes.{SavedListener, node_maker}
use Rattle.rebuild_plan.specs.Plan.{appends, attributes, clears, define, define_length, defines, dispatch, each, event, fillers, has_length, has_prototype, init, listens, makes, plan, prevent, set_value, start, starts, statements_of, thing_place, timers, whole}
use Rattle.rebuild_plan.specs.Stands.{PlansStand, is_next, made_by, maker_names, standing, statement_names}
use Rattle.rebuild_plan.specs.Timers.{moved_timer, moved_timers}
use Rattle.rebuild_plan.specs.declared.phase.Phase.{Phase}
use Rattle.rebuild_plan.specs.declared.phase.Phase.TheVariants as phase
use Rattle.rebuild_plan.specs.declared.statement.Maker.{Maker}
use Rattle.rebuild_plan.specs.declared.statement.Maker.TheVariants as made
use Rattle.rebuild_plan.specs.declared.statement.Rebuild.{Rebuild}
use Rattle.rebuild_plan.specs.declared.statement.Rebuild.TheVariants.{Make, Append, Attribute, SetValue, Init, Dispatch, Listen, Define, DefinePrototype, DefineLength, Filler, Clear, Timeout, Interval, Prevent}
use Rattle.scope_analysis.specs.Needs.{needed_variables}
use Rattle.timer_queue.specs.Timely.{AreTimely, IsPeriod, IsTimely}
use Rattle.timer_queue.specs.Timers.{is_live, timer_limit}
use Rattle.timer_queue.specs.declared.timer.Live.{Live}
use Rattle.early_rules.specs.Limits.{function_height_limit}
use Rattle.moved_pages.proofs.UsedNames.{needed_named}

-- ---- places and values

-- what is built in, the document and as many things as a saved page may have
low : (n : ℕ) → n ≤ 75000 → first_thing + n ≤ 75123
unfolding built_in_count
low n few = omega arith

number_written : (n : ℕ) → n ≤ 75000 → is_thing_number n ≡ true
number_written n few = le-leb n largest (omega (arith, few))

-- below the place n, which is no higher than that
module _ (n : ℕ) (few : n ≤ 75123) where
  place_written : (k : ℕ) → nat_lt k n ≡ true → nat_le (k - first_thing) largest ≡ true
  place_written k h = le-leb (k - first_thing) largest (omega (arith, few, ltb-true k n h))

  value_written : (v : Value) → all_below n (value_links v) ≡ true → IsLiteral v → is_writable_value v ≡ true
  value_written (value.Object at) h is = place_written at.0 (and_parts (nat_lt at.0 n) true h).0
  value_written (value.Num m) h is = whole m is
    where
      whole : (o : Option ℤ) → ForSome o InRange → is_number o ≡ true
      whole None r = refl
      whole (Some (pos i)) r = let x = r (pos i) refl in le-leb i largest (omega (arith, ints, x.1))
      whole (Some (negsuc i)) r = let x = r (negsuc i) refl in le-leb (suc i) largest (omega (arith, ints, x.0))
  value_written (value.Text t) h is = units t is
    where
      units : (us : List ℕ) → AllUnits us → list_all is_unit us ≡ true
      units [] a = refl
      units (u ∷ us) a =
          and_from (is_unit u) (list_all is_unit us) (lt-ltb u 65536 (All-head (λ x. x < 65536) u us a)) (units us (All-tail (λ x. x < 65536) u us a))
  value_written value.Undefined h is = refl
  value_written value.Null h is = refl
  value_written (value.Bool b) h is = refl

  text_written : (t : List ℕ) → IsLiteral (value.Text t) → list_all is_unit t ≡ true
  text_written t is = value_written (value.Text t) refl is

  values_written : (vs : List Value) → all_below n (values_links vs) ≡ true → All IsLiteral vs → list_all is_writable_value vs ≡ true
  values_written [] h is = refl
  values_written (v ∷ vs) h is =
      let parts = and_parts (all_below n (value_links v)) (all_below n (values_links vs))
      (sym (list_all-append (λ k. nat_lt k n) (value_links v) (values_links vs)) ∙ h) in
      and_from (is_writable_value v) (list_all is_writable_value vs) (value_written v parts.0 (All-head IsLiteral v vs is))
      (values_written vs parts.1 (All-tail IsLiteral v vs is))

  proto_written : (proto : Option ObjId) → all_below n (proto_links proto) ≡ true → is_prototype proto ≡ true
  proto_written None h = refl
  proto_written (Some at) h = place_written at.0 (and_parts (nat_lt at.0 n) true h).0

  named_written : (at : ObjId) (v : Value) → all_below n (at.0 ∷ value_links v) ≡ true → IsLiteral v
      → (is_place at ≡ true) × (is_writable_value v ≡ true)
  named_written at v h is =
      let parts = and_parts (nat_lt at.0 n) (all_below n (value_links v)) h in
      (place_written at.0 parts.0, value_written v parts.1 is)

-- ---- makers

-- the code is low, and a tree that some tokens have
abbrev pub IsLowSyntax : Code → Type 0
IsLowSyntax c = IsExpr (func c) × (code_height c + 1 ≤ function_height_limit)

-- so it is of a function, and what it needs has names
abbrev IsNamed : Maker → Type 0
IsNamed (made.Func c needs) = IsLowSyntax c × (list_all is_identifier (need_names needs) ≡ true)
IsNamed m = ⊤

-- its needs are named as its needed variables are
names_same : (s : Store) (things : List ℕ) (env : Option EnvId) (xs : List (List ℕ)) → need_names (moved_needs things (bound_values s env xs)) ≡ xs
names_same s things env [] = refl
names_same s things env (x ∷ xs) = ap (λ ys. x ∷ ys) (names_same s things env xs)

named_as : (s : Store) (things : List ℕ) (proto : Option ObjId) (d : Class)
    → ((c : Code) (env : Option EnvId) → d ≡ class.Page c env → IsLowSyntax c) → IsNamed (maker_as s things proto d)
named_as s things proto (class.Page c env) h =
    let is = h c env refl in
    (is, ap (list_all is_identifier) (names_same s things env (needed_variables c)) ∙ needed_named c is.0)
named_as s things proto (class.Node k) h = node_named (node_at s.host.nodes k.0).content.kind
  where
    node_named : (kind : Kind) → IsNamed (node_maker things proto kind)
    node_named kind.Document = tt
    node_named (kind.Element x) = tt
    node_named (kind.Text t) = tt
    node_named (kind.Comment t) = tt
named_as s things proto d h = tt

needs_written : (n : ℕ) → n ≤ 75123 → (needs : List (List ℕ × Value)) → all_below n (needs_links needs) ≡ true → All IsLiteral (need_values needs)
    → list_all is_identifier (need_names needs) ≡ true → list_all is_need needs ≡ true
needs_written n few [] h is named = refl
needs_written n few (x ∷ xs) h is named =
    let parts = and_parts (all_below n (value_links x.1)) (all_below n (needs_links xs))
    (sym (list_all-append (λ k. nat_lt k n) (value_links x.1) (needs_links xs)) ∙ h) in
    let names = and_parts (is_identifier x.0) (list_all is_identifier (need_names xs)) named in
    and_from (is_need x) (list_all is_need xs)
    (and_from (is_identifier x.0) (is_writable_value x.1) names.0
    (value_written n few x.1 parts.0 (All-head IsLiteral x.1 (need_values xs) is)))
    (needs_written n few xs parts.1 (All-tail IsLiteral x.1 (need_values xs) is) names.1)

maker_written : (n : ℕ) → n ≤ 75123 → (m : Maker) → all_below n (maker_names m) ≡ true → All IsLiteral (maker_values m) → IsNamed m
    → IsWritableMaker m
maker_written n few (made.Plain proto) h is named = proto_written n few proto h
maker_written n few made.List h is named = tt
maker_written n few (made.Fault kind) h is named = tt
maker_written n few made.Event h is named = tt
maker_written n few (made.Element x) h is named = text_written n few x (All-head IsLiteral (value.Text x) [] is)
maker_written n few (made.Text t) h is named = text_written n few t (All-head IsLiteral (value.Text t) [] is)
maker_written n few (made.Comment t) h is named = text_written n few t (All-head IsLiteral (value.Text t) [] is)
maker_written n few (made.Func c needs) h is named =
    (named.0.0, named.0.1, needs_written n few needs h is named.1)
maker_written n few (made.Bind target this args) h is named =
    let rest = and_parts (nat_lt target.0 n) (all_below n (value_links this ++ values_links args)) h in
    let parts = and_parts (all_below n (value_links this)) (all_below n (values_links args))
    (sym (list_all-append (λ k. nat_lt k n) (value_links this) (values_links args)) ∙ rest.1) in (
      place_written n few target.0 rest.0,
      value_written n few this parts.0 (All-head IsLiteral this args is),
      values_written n few args parts.1 (All-tail IsLiteral this args is),
    )

-- ---- statements that make nothing, and whose numbers are of the language

abbrev is_quiet : Rebuild → Bool
is_quiet (Make number m) = false
is_quiet (Clear id) = is_thing_number id
is_quiet (Timeout call rest) = is_thing_number rest
is_quiet (Interval call rest period) = is_thing_number rest && is_thing_number period
is_quiet r = true

joined : (xs ys : List Rebuild) → list_all is_quiet xs ≡ true → list_all is_quiet ys ≡ true → list_all is_quiet (xs ++ ys) ≡ true
joined xs ys a b = list_all-append is_quiet xs ys ∙ and_from (list_all is_quiet xs) (list_all is_quiet ys) a b

appends_quiet : (at : ObjId) (cs : List ObjId) → list_all is_quiet (appends at cs) ≡ true
appends_quiet at [] = refl
appends_quiet at (c ∷ cs) = appends_quiet at cs

attributes_quiet : (at : ObjId) (ps : Pairs) → list_all is_quiet (attributes at ps) ≡ true
attributes_quiet at [] = refl
attributes_quiet at (p ∷ ps) = attributes_quiet at ps

value_quiet : (at : ObjId) (v : Option (List ℕ)) → list_all is_quiet (set_value at v) ≡ true
value_quiet at None = refl
value_quiet at (Some t) = refl

listens_quiet : (at : ObjId) (ls : List SavedListener) → list_all is_quiet (listens at ls) ≡ true
listens_quiet at [] = refl
listens_quiet at (l ∷ ls) = listens_quiet at ls

event_quiet : (at : ObjId) (e : Option SavedEvent) → list_all is_quiet (event at e) ≡ true
event_quiet at None = refl
event_quiet at (Some e) = joined (init at e) (dispatch at e.target) (begun e.begun) (sent e.target)
  where
    begun : (b : Bool) → list_all is_quiet (if b then Init at e.kind e.bubbles e.cancelable ∷ [] else []) ≡ true
    begun true = refl
    begun false = refl

    sent : (t : Option ObjId) → list_all is_quiet (dispatch at t) ≡ true
    sent None = refl
    sent (Some target) = refl

define_quiet : (c d : Bool) (at : ObjId) (x : List ℕ) (p : Prop)
    → list_all is_quiet (if c then [] else (if d then DefinePrototype at p.value p.writable ∷ [] else Define at x p ∷ [])) ≡ true
define_quiet true d at x p = refl
define_quiet false true at x p = refl
define_quiet false false at x p = refl

defines_quiet : (a b : Bool) (at : ObjId) (props : Props) → list_all is_quiet (defines a b at props) ≡ true
defines_quiet a b at [] = refl
defines_quiet a b at (e ∷ es) =
    joined (define a b at e.0 e.1) (defines a b at es)
    (define_quiet (a && bytes_eq e.0 length_name) (b && bytes_eq e.0 prototype_name) at e.0 e.1) (defines_quiet a b at es)

length_quiet : (m : Maker) (at : ObjId) (own : Option Prop) → list_all is_quiet (define_length m at own) ≡ true
length_quiet made.List at (Some p) = refl
length_quiet made.List at None = refl
length_quiet (made.Plain proto) at own = refl
length_quiet (made.Fault kind) at own = refl
length_quiet (made.Func c needs) at own = refl
length_quiet (made.Bind target this args) at own = refl
length_quiet (made.Element x) at own = refl
length_quiet (made.Text t) at own = refl
length_quiet (made.Comment t) at own = refl
length_quiet made.Event at own = refl

prevent_quiet : (at : ObjId) (t : Thing) → list_all is_quiet (prevent at t) ≡ true
prevent_quiet at t = by t.extensible
  where
    by : (b : Bool) → list_all is_quiet (if b then [] else Prevent at ∷ []) ≡ true
    by true = refl
    by false = refl

-- those of a phase for one object, for each thing, and for the document and each thing
phase_quiet : (p : Phase) (at : ObjId) (t : Thing) → list_all is_quiet (statements_of p at t) ≡ true
phase_quiet phase.Children at t = appends_quiet at t.node.children
phase_quiet phase.Contents at t =
    joined (attributes at t.node.attributes) (set_value at t.node.value) (attributes_quiet at t.node.attributes) (value_quiet at t.node.value)
phase_quiet phase.Events at t = event_quiet at t.event
phase_quiet phase.Listeners at t = listens_quiet at t.node.listeners
phase_quiet phase.Properties at t =
    joined (defines (has_length t.maker) (has_prototype t.maker) at t.props) (define_length t.maker at (own_property t.props length_name))
    (defines_quiet (has_length t.maker) (has_prototype t.maker) at t.props) (length_quiet t.maker at (own_property t.props length_name))
phase_quiet phase.Ends at t = prevent_quiet at t

each_quiet : (p : Phase) (n : ℕ) (ts : List Thing) → list_all is_quiet (each p n ts) ≡ true
each_quiet p n [] = refl
each_quiet p n (t ∷ ts) = joined (statements_of p (thing_place n) t) (each p (suc n) ts) (phase_quiet p (thing_place n) t) (each_quiet p (suc n) ts)

whole_quiet : (p : Phase) (c : Compact) → list_all is_quiet (whole p c) ≡ true
whole_quiet p c = joined (statements_of p document c.document) (each p 0 c.things) (phase_quiet p document c.document) (each_quiet p 0 c.things)

-- ---- timers

fillers_quiet : (n : ℕ) → list_all is_quiet (fillers n) ≡ true
fillers_quiet zero = refl
fillers_quiet (suc n) = fillers_quiet n

-- a number that is no larger than a time can be
small : (n : ℕ) → n ≤ time_limit → is_thing_number n ≡ true
unfolding time_limit
small n h = le-leb n largest (omega (arith, h))

module _ (things : List ℕ) (clock : ℕ) where
  start_quiet : (t : Live) (p : Option ℕ) → IsTimely time_limit clock t → IsPeriod time_limit p → is_quiet (start (moved_timer things clock t) p) ≡ true
  start_quiet t None timely period = small (t.due - clock) (omega (arith, timely.near))
  start_quiet t (Some n) timely period =
      and_from (is_thing_number (t.due - clock)) (is_thing_number n) (small (t.due - clock) (omega (arith, timely.near))) (small n period.1)

  starts_quiet : (ts : List Live) → AreTimely time_limit clock ts → list_all is_quiet (starts (moved_timers things clock ts)) ≡ true
  starts_quiet [] all = refl
  starts_quiet (t ∷ ts) all =
      let timely = all t (inl refl) in
      and_from (is_thing_number t.id) (list_all is_quiet (start (moved_timer things clock t) t.period ∷ starts (moved_timers things clock ts)))
      (id_small t.id timely.few)
      (and_from (is_quiet (start (moved_timer things clock t) t.period)) (list_all is_quiet (starts (moved_timers things clock ts)))
      (start_quiet t t.period timely timely.period) (starts_quiet ts (λ u h. all u (inr h))))
    where
      id_small : (n : ℕ) → n ≤ timer_limit → is_thing_number n ≡ true
      id_small n h = le-leb n largest (omega (arith, h))

  greatest_small : (ts : List Live) → AreTimely time_limit clock ts → greatest (moved_timers things clock ts) ≤ timer_limit
  greatest_small [] all = omega arith
  greatest_small (t ∷ ts) all = let here = (all t (inl refl)).few in omega (arith, here, greatest_small ts (λ u h. all u (inr h)))

clears_quiet : (n id : ℕ) (ts : List Live) → n + id ≤ 65537 → list_all is_quiet (clears n id ts) ≡ true
clears_quiet zero id ts few = refl
clears_quiet (suc n) id ts few =
    joined (if is_live ts id then [] else Clear id ∷ []) (clears n (id + 1) ts) (by (is_live ts id)) (clears_quiet n (id + 1) ts (omega (arith, few)))
  where
    by : (b : Bool) → list_all is_quiet (if b then [] else Clear id ∷ []) ≡ true
    by true = refl
    by false = and_from (is_thing_number id) true (le-leb id largest (omega (arith, few))) refl

timers_quiet : (things : List ℕ) (clock : ℕ) (ts : List Live) → AreTimely time_limit clock ts → list_all is_quiet (timers (moved_timers things clock ts)) ≡ true
timers_quiet things clock ts all =
    let us : List Live = moved_timers things clock ts in
    let n : ℕ = greatest us in
    joined (fillers n) (starts us ++ clears n 1 us) (fillers_quiet n)
    (joined (starts us) (clears n 1 us) (starts_quiet things clock ts all) (clears_quiet n 1 us (omega (arith, greatest_small things clock ts all))))

-- ---- statements

two_written : (n : ℕ) → n ≤ 75123 → (a b : ObjId) → all_below n (a.0 ∷ b.0 ∷ []) ≡ true → (is_place a ≡ true) × (is_place b ≡ true)
two_written n few a b h =
    let first = and_parts (nat_lt a.0 n) (nat_lt b.0 n && true) h in
    (place_written n few a.0 first.0, place_written n few b.0 (and_parts (nat_lt b.0 n) true first.1).0)

one_written : (n : ℕ) → n ≤ 75123 → (a : ObjId) → all_below n (a.0 ∷ []) ≡ true → is_place a ≡ true
one_written n few a h = place_written n few a.0 (and_parts (nat_lt a.0 n) true h).0

-- one that makes nothing, where what it names stands
statement_written : (n : ℕ) → n ≤ 75123 → (r : Rebuild) → is_quiet r ≡ true → all_below n (statement_names r) ≡ true → HasLiterals r → IsWritable r
statement_written n few (Make number m) quiet h is = cc quiet
statement_written n few (Append parent child) quiet h is = two_written n few parent child h
statement_written n few (Attribute node x v) quiet h is = (
  one_written n few node h,
  text_written n few x (All-head IsLiteral (value.Text x) (value.Text v ∷ []) is),
  text_written n few v (All-head IsLiteral (value.Text v) [] (All-tail IsLiteral (value.Text x) (value.Text v ∷ []) is)),
)
statement_written n few (SetValue node t) quiet h is = (one_written n few node h, text_written n few t (All-head IsLiteral (value.Text t) [] is))
statement_written n few (Init at kind bubbles cancelable) quiet h is =
    (one_written n few at h, text_written n few kind (All-head IsLiteral (value.Text kind) [] is))
statement_written n few (Dispatch target at) quiet h is = two_written n few target at h
statement_written n few (Listen node kind function capture) quiet h is =
    let places = two_written n few node function h in
    (places.0, text_written n few kind (All-head IsLiteral (value.Text kind) [] is), places.1)
statement_written n few (Define at x p) quiet h is =
    let whole = All-head IsLiteral p.value [] (All-tail IsLiteral (value.Text x) (p.value ∷ []) is) in
    let named = named_written n few at p.value h whole in
    (named.0, text_written n few x (All-head IsLiteral (value.Text x) (p.value ∷ []) is), named.1)
statement_written n few (DefinePrototype at v writable) quiet h is = named_written n few at v h (All-head IsLiteral v [] is)
statement_written n few (DefineLength at v writable) quiet h is = named_written n few at v h (All-head IsLiteral v [] is)
statement_written n few Filler quiet h is = tt
statement_written n few (Clear id) quiet h is = quiet
statement_written n few (Timeout function rest) quiet h is = (one_written n few function h, quiet)
statement_written n few (Interval function rest period) quiet h is =
    let numbers = and_parts (is_thing_number rest) (is_thing_number period) quiet in
    (one_written n few function h, numbers.0, numbers.1)
statement_written n few (Prevent at) quiet h is = one_written n few at h

none_made : (r : Rebuild) → is_quiet r ≡ true → made_by r ≡ 0
none_made (Make number m) quiet = cc quiet
none_made r quiet = refl

-- so many things stand
quiet_written : (n : ℕ) (rs : List Rebuild) → n ≤ 75000 → standing n rs ≡ true → list_all is_quiet rs ≡ true → HaveLiterals rs
    → All IsWritable rs
quiet_written n [] few stands quiet is = All-nil IsWritable
quiet_written n (r ∷ rs) few stands quiet is =
    let parts = and_parts (is_next n r && all_below (first_thing + n) (statement_names r)) (standing (made_by r + n) rs) stands in
    let own = and_parts (is_quiet r) (list_all is_quiet rs) quiet in
    let here = and_parts (is_next n r) (all_below (first_thing + n) (statement_names r)) parts.0 in
    let same : made_by r + n ≡ n = omega (arith, none_made r own.0) in
    let others : standing n rs ≡ true = subst (λ m. standing m rs ≡ true) same parts.1 in
    All-cons IsWritable r rs (statement_written (first_thing + n) (low n few) r own.0 here.1 (All-head HasLiterals r rs is))
    (quiet_written n rs few others own.1 (All-tail HasLiterals r rs is))

-- the things at these places are made
makes_written : (s : Store) (things ks : List ℕ) (n : ℕ) (rest : List Rebuild) → n + length ks ≤ 75000
    → ((k : ℕ) → is_in k ks ≡ true → IsNamed (maker_at s things k)) → standing n (makes n (things_at s things ks) ++ rest) ≡ true
    → list_all is_quiet rest ≡ true → HaveLiterals (makes n (things_at s things ks) ++ rest)
    → All IsWritable (makes n (things_at s things ks) ++ rest)
makes_written s things [] n rest few named stands quiet is = quiet_written n rest (omega (arith, few)) stands quiet is
makes_written s things (k ∷ ks) n rest few named stands quiet is =
    let m : Maker = maker_at s things k in
    let others : List Rebuild = makes (suc n) (things_at s things ks) ++ rest in
    let here : n ≤ 75000 = omega (arith, few) in
    let names : Bool = all_below (first_thing + n) (maker_names m) in
    let next : 1 + n ≡ suc n = omega arith in
    let parts = and_parts (nat_eq n n && names) (standing (suc n) others) (subst (λ j. ((nat_eq n n && names) && standing j others) ≡ true) next stands) in
    let own = and_parts (nat_eq n n) names parts.0 in
    let written =
    maker_written (first_thing + n) (low n here) m own.1 (All-head HasLiterals (Make n m) others is)
    (named k (or_left (nat_eq k k) (is_in k ks) (eq-eqb k k refl)))
    in
    All-cons IsWritable (Make n m) others (number_written n here, written)
    (makes_written s things ks (suc n) rest (omega (arith, few)) (λ j i. named j (or_right (nat_eq j k) (is_in j ks) i)) parts.1 quiet
    (All-tail HasLiterals (Make n m) others is))

-- ---- the whole plan

-- each thing counts
few_things : (s : Store) (ks : List ℕ) → length ks ≤ (things_load s ks).things
few_things s [] = omega arith
few_things s (k ∷ ks) = omega (arith, few_things s ks)

pub are_written : PlansStand → (s : Store) (things : List ℕ) → Still s → IsWalk s things → HasSyntax s → AllCanBeRemade s things
    → HaveLiterals (plan (compact s things)) → (load_of s things).things ≤ things_limit → AreWritten s things
are_written stand s things still walk syntax remade literals few =
    let c : Compact = compact s things in
    let last : List Rebuild = timers c.timers ++ whole phase.Ends c in
    let filled : List Rebuild = whole phase.Properties c ++ last in
    let defined : List Rebuild = defines false false window c.globals ++ filled in
    let heard : List Rebuild = whole phase.Listeners c ++ defined in
    let sent : List Rebuild = whole phase.Events c ++ heard in
    let set : List Rebuild = whole phase.Contents c ++ sent in
    let rest : List Rebuild = whole phase.Children c ++ set in
    let quiet : list_all is_quiet rest ≡ true =
    joined (whole phase.Children c) set (whole_quiet phase.Children c)
    (joined (whole phase.Contents c) sent (whole_quiet phase.Contents c)
    (joined (whole phase.Events c) heard (whole_quiet phase.Events c)
    (joined (whole phase.Listeners c) defined (whole_quiet phase.Listeners c)
    (joined (defines false false window c.globals) filled (defines_quiet false false window c.globals)
    (joined (whole phase.Properties c) last (whole_quiet phase.Properties c)
    (joined (timers c.timers) (whole phase.Ends c) (timers_quiet things s.host.clock s.host.timers still.shaped.host.sound.timely) (whole_quiet phase.Ends c)))))))
    in
    makes_written s things things 0 rest (omega (arith, few, few_things s things)) named (stand s things still walk) quiet literals
  where
    named : (k : ℕ) → is_in k things ≡ true → IsNamed (maker_at s things k)
    named k h =
        named_as s things (object_at s.heap.objects k).proto (object_at s.heap.objects k).class
        (λ c env e. (syntax k c env (walk.sound k h) e, (remade k c env h e).low))
