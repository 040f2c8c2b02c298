-- How many bytes the lines of a plan take at most, and that what the page weighs pays for them.
use Rattle.std.proofs.Common.{◌≡◌, refl, sym, ap, ◌∙◌, ℕ, suc, ◌+◌, ◌*◌, ◌≤◌, Bool, true, false, ◌&&◌, List, [], ◌∷◌, ◌++◌, length, All, Option, bytes_eq, arith}
use Rattle.std.specs.Prelude.{if◌then◌else◌}
use Rattle.std.proofs.lemmas.Slice.Eq.{bytes_eq-Decides}
use Rattle.std.proofs.lemmas.Bool.{and_parts}
use Rattle.std.proofs.lemmas.List.Elements.{All-head, All-tail}
use Rattle.heap_walker.specs.Things.{needs_of}
use Rattle.dom_tree.specs.Node.{node_at}
use Rattle.dom_tree.specs.declared.content.Kind.{Kind}
use Rattle.dom_tree.specs.declared.content.Kind.TheVariants as kind
use Rattle.js_core.specs.Tree.{Code}
use Rattle.js_values.specs.declared.ids.EnvId.{EnvId}
use Rattle.heap_walker.specs.Weight.{arguments_load, class_load, has_made_length, needs_load, props_load, things_load, value_units, written, written_of}
use Rattle.js_print.specs.Lexemes.{expr_lexemes}
use Rattle.js_values.specs.declared.ids.ObjId.{ObjId}
use Rattle.js_values.specs.declared.value.Value.{Value}
use Rattle.js_values.specs.declared.value.Value.TheVariants as value
use Rattle.object_heap.specs.Define.{length_name}
use Rattle.object_heap.specs.Function.{prototype_name}
use Rattle.object_heap.specs.Object.{Object}
use Rattle.object_heap.specs.Property.{Props, own_property}
use Rattle.object_heap.specs.declared.object.Class.{Class}
use Rattle.object_heap.specs.declared.object.Class.TheVariants as class
use Rattle.page_meaning.specs.Store.{Store}
use Rattle.rebuild_plan.specs.Compact.{Compact, Thing, compact, maker_as, moved_needs, moved_props, moved_value, moved_values, thing_of, things_at}
use Rattle.rebuild_plan.specs.Nodes.{node_maker}
use Rattle.rebuild_plan.specs.Plan.{define_length, defines, fill, has_length, has_prototype, makes, plan, prevent}
use Rattle.rebuild_plan.specs.Stands.{made_by}
use Rattle.rebuild_plan.specs.declared.statement.Maker.{Maker}
use Rattle.rebuild_plan.specs.declared.statement.Maker.TheVariants as made
use Rattle.rebuild_plan.specs.declared.statement.Rebuild.{Rebuild}
use Rattle.rebuild_plan.specs.declared.statement.Rebuild.TheVariants.{Make, Append, Attribute, SetValue, Init, Dispatch, Listen, Define, DefinePrototype, DefineLength, Filler, Clear, Timeout, Interval, Prevent}
use Rattle.page_writer.specs.Statements.{reference}
use Rattle.page_writer.proofs.Lined.{bytes, counted, made_most, maker_load}
use Rattle.page_writer.proofs.Making.{MakesNothing, later, later_makes_nothing}
use Rattle.page_writer.proofs.Widths.{wide}

-- ---- what a line takes

-- how wide a reference to the object is
abbrev pub named : ObjId → ℕ
named at = wide (expr_lexemes (reference at))

-- the most bytes in which a property of the object is defined
abbrev pub defined : ObjId → List ℕ → Value → ℕ
defined at x v = named at + 141 + 6 * (length x + value_units v)

-- the most bytes of a statement's line
abbrev pub most : Rebuild → ℕ
most (Make number m) = 13 + made_most m
most (Append parent child) = named parent + named child + 16
most (Attribute node x v) = named node + 22 + 6 * (length x + length v)
most (SetValue node x) = named node + 11 + 6 * length x
most (Init at kind bubbles cancelable) = named at + 28 + 6 * length kind
most (Dispatch target at) = named target + named at + 18
most (Listen node kind f capture) = named node + 70 + 6 * length kind
most (Define at x p) = defined at x p.value
most (DefinePrototype at v writable) = defined at prototype_name v
most (DefineLength at v writable) = defined at length_name v
most Filler = 31
most (Clear id) = 17 + counted id
most (Timeout f rest) = 56 + counted rest
most (Interval f rest period) = 62 + counted rest + counted period
most (Prevent at) = named at + 30

abbrev pub cost : List Rebuild → ℕ
cost [] = 0
cost (r ∷ rs) = most r + cost rs

pub cost_append : (xs ys : List Rebuild) → cost (xs ++ ys) ≡ cost xs + cost ys
cost_append [] ys = omega arith
cost_append (x ∷ xs) ys = omega (arith, cost_append xs ys)

-- ---- how many things are made

abbrev pub makes_in : List Rebuild → ℕ
makes_in [] = 0
makes_in (r ∷ rs) = made_by r + makes_in rs

makes_append : (xs ys : List Rebuild) → makes_in (xs ++ ys) ≡ makes_in xs + makes_in ys
makes_append [] ys = omega arith
makes_append (x ∷ xs) ys = omega (arith, makes_append xs ys)

none_made : (rs : List Rebuild) → All MakesNothing rs → makes_in rs ≡ 0
none_made [] all = refl
none_made (r ∷ rs) all = omega (arith, All-head MakesNothing r rs all, none_made rs (All-tail MakesNothing r rs all))

makes_in_makes : (n : ℕ) (ts : List Thing) → makes_in (makes n ts) ≡ length ts
makes_in_makes n [] = refl
makes_in_makes n (t ∷ ts) = omega (arith, makes_in_makes (suc n) ts)

things_counted : (s : Store) (things ks : List ℕ) → length (things_at s things ks) ≡ length ks
things_counted s things [] = refl
things_counted s things (k ∷ ks) = ap suc (things_counted s things ks)

pub makes_in_plan : (s : Store) (things : List ℕ)
    → makes_in (plan (compact s things)) ≡ length things
makes_in_plan s things =
    let c : Compact = compact s things in
    omega (
      arith,
      makes_append (makes 0 c.things) (later c),
      makes_in_makes 0 c.things,
      none_made (later c) (later_makes_nothing c),
      things_counted s things things,
    )

-- ---- what is moved weighs the same

units_kept : (things : List ℕ) (v : Value) → value_units (moved_value things v) ≡ value_units v
units_kept things (value.Object at) = refl
units_kept things (value.Text t) = refl
units_kept things value.Undefined = refl
units_kept things value.Null = refl
units_kept things (value.Bool b) = refl
units_kept things (value.Num n) = refl

needs_kept : (things : List ℕ) (ns : List (List ℕ × Value))
    → bytes (needs_load (moved_needs things ns)) ≡ bytes (needs_load ns)
needs_kept things [] = refl
needs_kept things (n ∷ ns) = omega (arith, units_kept things n.1, needs_kept things ns)

arguments_kept : (things : List ℕ) (vs : List Value)
    → bytes (arguments_load (moved_values things vs)) ≡ bytes (arguments_load vs)
arguments_kept things [] = refl
arguments_kept things (v ∷ vs) = omega (arith, units_kept things v, arguments_kept things vs)

pub function_kept : (s : Store) (things : List ℕ) (proto : Option ObjId) (c : Code) (env : Option EnvId)
    → bytes (maker_load (maker_as s things proto (class.Page c env))) ≡ bytes (class_load s (class.Page c env))
function_kept s things proto c env = omega (arith, needs_kept things (needs_of s env c))

pub bound_kept : (s : Store) (things : List ℕ) (proto : Option ObjId) (target : ObjId) (this : Value) (args : List Value)
    → bytes (maker_load (maker_as s things proto (class.Bound target this args))) ≡ bytes (class_load s (class.Bound target this args))
bound_kept s things proto target this args = omega (arith, units_kept things this, arguments_kept things args)

-- ---- properties

defined_same : (at : ObjId) (x y : List ℕ) (things : List ℕ) (v : Value) → named at ≤ 10
    → bytes_eq x y ≡ true
    → defined at y (moved_value things v) ≤ 160 + 6 * (length x + value_units v)
defined_same at x y things v few same =
    omega (
      arith,
      few,
      units_kept things v,
      ap length ((bytes_eq-Decides x y).0 same),
    )

defined_kept : (at : ObjId) (x : List ℕ) (things : List ℕ) (v : Value) → named at ≤ 10
    → defined at x (moved_value things v) ≤ 160 + 6 * (length x + value_units v)
defined_kept at x things v few = omega (arith, few, units_kept things v)

pub defines_cost : (a b : Bool) (at : ObjId) (things : List ℕ) (ps : Props) → named at ≤ 10
    → cost (defines a b at (moved_props things ps)) ≤ bytes (props_load (written a ps))
defines_cost a b at things [] few = omega arith
defines_cost a b at things (e ∷ es) few =
    by (a && bytes_eq e.0 length_name) refl (b && bytes_eq e.0 prototype_name) refl
    (defines_cost a b at things es few)
  where
    by : (c : Bool) → (a && bytes_eq e.0 length_name) ≡ c → (d : Bool)
        → (b && bytes_eq e.0 prototype_name) ≡ d
        → cost (defines a b at (moved_props things es)) ≤ bytes (props_load (written a es))
        → cost (defines a b at (moved_props things (e ∷ es)))
        ≤ bytes (props_load (written a (e ∷ es)))
    by true is d other others = rw is others
    by false is true other others =
        let same : bytes_eq e.0 prototype_name ≡ true = (and_parts b (bytes_eq e.0 prototype_name) other).1 in
        let first = defined_same at e.0 prototype_name things e.1.value few same in
        rw (is, other) (omega (arith, first, others))
    by false is false other others =
        rw (is, other) (omega (arith, defined_kept at e.0 things e.1.value few, others))

pub all_written : (ps : Props) → written false ps ≡ ps
all_written [] = refl
all_written (e ∷ es) = ap (λ l. e ∷ l) (all_written es)

fewer_written : (ps : Props) → bytes (props_load (written true ps)) ≤ bytes (props_load ps)
fewer_written [] = omega arith
fewer_written (e ∷ es) = by (bytes_eq e.0 length_name) refl (fewer_written es)
  where
    by : (c : Bool) → bytes_eq e.0 length_name ≡ c
        → bytes (props_load (written true es)) ≤ bytes (props_load es)
        → bytes (props_load (written true (e ∷ es))) ≤ bytes (props_load (e ∷ es))
    by true is others = rw is (omega (arith, others))
    by false is others = rw is (omega (arith, others))

-- an array, whose length is defined last
abbrev list_most : ObjId → Props → ℕ
list_most at props =
    cost (defines true false at props)
    + cost (define_length made.List at (own_property props length_name))

list_cost : (at : ObjId) (things : List ℕ) (ps : Props) → named at ≤ 10
    → list_most at (moved_props things ps) ≤ bytes (props_load ps)
list_cost at things [] few = omega arith
list_cost at things (e ∷ es) few =
    by (bytes_eq e.0 length_name) refl (bytes_eq length_name e.0) refl (list_cost at things es few)
  where
    by : (c : Bool) → bytes_eq e.0 length_name ≡ c → (d : Bool) → bytes_eq length_name e.0 ≡ d
        → list_most at (moved_props things es) ≤ bytes (props_load es)
        → list_most at (moved_props things (e ∷ es)) ≤ bytes (props_load (e ∷ es))
    by true is true found others =
        let first = defined_same at e.0 length_name things e.1.value few is in
        let rest = defines_cost true false at things es few in
        rw (is, found) (omega (arith, first, rest, fewer_written es))
    by true is false other others = rw (is, other) (omega (arith, others))
    by false other true found others =
        let same : e.0 ≡ length_name = sym ((bytes_eq-Decides length_name e.0).0 found) in
        cc (sym other ∙ (bytes_eq-Decides e.0 length_name).1 same)
    by false is false other others =
        rw (is, other) (omega (arith, defined_kept at e.0 things e.1.value few, others))

pub fill_cost : (s : Store) (things : List ℕ) (at : ObjId) (o : Object) → named at ≤ 10
    → cost (fill at (thing_of s things o)) ≤ bytes (props_load (written_of o))
fill_cost s things at o few = by o.class
  where
    filled : Class → List Rebuild
    filled c =
        let m : Maker = maker_as s things o.proto c in
        let props : Props = moved_props things o.props in
        defines (has_length m) (has_prototype m) at props
        ++ define_length m at (own_property props length_name)

    props : Props
    props = moved_props things o.props

    simple : cost (defines false false at props ++ []) ≤ bytes (props_load (written false o.props))
    simple =
        omega (
          arith,
          cost_append (defines false false at props) [],
          defines_cost false false at things o.props few,
        )

    by : (c : Class) → cost (filled c) ≤ bytes (props_load (written (has_made_length c) o.props))
    by class.List =
        let last : List Rebuild = define_length made.List at (own_property props length_name) in
        omega (
          arith,
          cost_append (defines true false at props) last,
          list_cost at things o.props few,
          ap (λ l. bytes (props_load l)) (all_written o.props),
        )
    by (class.Page c env) =
        omega (
          arith,
          cost_append (defines true true at props) [],
          defines_cost true true at things o.props few,
        )
    by (class.Bound target this args) =
        omega (
          arith,
          cost_append (defines true false at props) [],
          defines_cost true false at things o.props few,
        )
    by (class.Node k) = node (node_at s.host.nodes k.0).content.kind
      where
        node : (kind : Kind)
            → cost (defines (has_length (node_maker things o.proto kind)) (has_prototype (node_maker things o.proto kind)) at props
            ++ define_length (node_maker things o.proto kind) at (own_property props length_name))
            ≤ bytes (props_load (written false o.props))
        node kind.Document = simple
        node (kind.Element x) = simple
        node (kind.Text x) = simple
        node (kind.Comment x) = simple
    by c = simple

pub prevent_cost : (at : ObjId) (t : Thing) → named at ≤ 10 → cost (prevent at t) ≤ 40
prevent_cost at t few = by t.extensible
  where
    by : (b : Bool) → cost (if b then [] else Prevent at ∷ []) ≤ 40
    by true = omega arith
    by false = omega (arith, few)

-- each thing counts
pub few_things : (s : Store) (ks : List ℕ) → length ks ≤ (things_load s ks).things
few_things s [] = omega arith
few_things s (k ∷ ks) = omega (arith, few_things s ks)
