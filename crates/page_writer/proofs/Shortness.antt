-- A saved page takes no more bytes than its things and their texts pay for.
use Rattle.std.proofs.Common.{◌≡◌, refl, ap, ℕ, ◌+◌, ◌<◌, ◌≤◌, Bool, true, ◌&&◌, List, [], ◌∷◌, ◌++◌, length, All, arith}
use Rattle.std.proofs.lemmas.Bool.{and_parts, eqb-true}
use Rattle.std.proofs.lemmas.List.{length-append}
use Rattle.std.proofs.lemmas.List.Elements.{All-head, All-tail}
use Rattle.object_shapes.specs.Links.{all_below, value_links}
use Rattle.page_meaning.specs.Places.{built_in_count}
use Rattle.js_core.specs.Tree.{Fields}
use Rattle.js_print.specs.Lexemes.{stmt_lexemes}
use Rattle.js_print.specs.Spelling.{text_of}
use Rattle.js_values.specs.declared.ids.ObjId.{ObjId}
use Rattle.js_values.specs.declared.value.Value.{Value}
use Rattle.js_values.specs.declared.value.Value.TheVariants.{Text}
use Rattle.object_heap.specs.declared.property.Prop.{Prop}
use Rattle.object_heap.specs.Define.{length_name}
use Rattle.object_heap.specs.Function.{prototype_name}
use Rattle.rebuild_plan.specs.Compact.{compact}
use Rattle.rebuild_plan.specs.Plan.{plan}
use Rattle.rebuild_plan.specs.Moved.{first_thing}
use Rattle.rebuild_plan.specs.Stands.{is_next, made_by, standing, statement_names}
use Rattle.rebuild_plan.proofs.Callers.{plans_stand}
use Rattle.rebuild_plan.specs.declared.statement.Maker.{Maker}
use Rattle.rebuild_plan.specs.declared.statement.Rebuild.{Rebuild}
use Rattle.rebuild_plan.specs.declared.statement.Rebuild.TheVariants.{Make, Append, Attribute, SetValue, Init, Dispatch, Listen, Define, DefinePrototype, DefineLength, Filler, Clear, Timeout, Interval, Prevent}
use Rattle.page_writer.specs.Length.{PagesAreShort}
use Rattle.page_writer.specs.Literals.{HasLiterals, IsLiteral}
use Rattle.page_writer.specs.Page.{line, lines}
use Rattle.page_writer.specs.Statements.{statement}
use Rattle.page_writer.proofs.Costs.{cost, few_things, makes_in, makes_in_plan, most}
use Rattle.page_writer.proofs.Fitness.{AreLow, Fits, MakerFits, below_more, low_first, low_others, maker_fits}
use Rattle.page_writer.proofs.HostCosts.{plan_cost}
use Rattle.page_writer.proofs.Lined.{append_wide, attribute_wide, clear_wide, define_wide, dispatch_wide, filler_wide, init_wide, interval_wide, listen_wide, make_wide, prevent_wide, set_wide, short_fields, short_fields_wide, timeout_wide, whole_fields, whole_fields_wide}
use Rattle.page_writer.proofs.Paged.{page_head, page_parts, page_tail}
use Rattle.page_writer.proofs.Spelled.{reference_narrow}
use Rattle.page_writer.proofs.Widths.{text_within, wide}

-- ---- each line

line_within : (r : Rebuild) → length (line r) ≤ wide (stmt_lexemes (statement r)) + 1
line_within r =
    let lexemes = stmt_lexemes (statement r) in
    omega (arith, length-append (text_of lexemes) (10 ∷ []), text_within lexemes)

make_short : (n : ℕ) (m : Maker) → n < 75000 → MakerFits m
    → length (line (Make n m)) ≤ most (Make n m)
make_short n m few fit = omega (arith, line_within (Make n m), make_wide n m few fit)

define_short : (at : ObjId) (x : List ℕ) (p : Prop) → Fits p.value
    → length (line (Define at x p)) ≤ most (Define at x p)
define_short at x p fits =
    omega (
      arith,
      line_within (Define at x p),
      define_wide at x (whole_fields p),
      whole_fields_wide p fits,
    )

prototype_short : (at : ObjId) (v : Value) (writable : Bool) → Fits v
    → length (line (DefinePrototype at v writable)) ≤ most (DefinePrototype at v writable)
prototype_short at v writable fits =
    let fields : Fields = short_fields v writable in
    omega (
      arith,
      line_within (DefinePrototype at v writable),
      define_wide at prototype_name fields,
      short_fields_wide v writable fits,
    )

length_short : (at : ObjId) (v : Value) (writable : Bool) → Fits v
    → length (line (DefineLength at v writable)) ≤ most (DefineLength at v writable)
length_short at v writable fits =
    let fields : Fields = short_fields v writable in
    omega (
      arith,
      line_within (DefineLength at v writable),
      define_wide at length_name fields,
      short_fields_wide v writable fits,
    )

prevent_short : (at : ObjId) → length (line (Prevent at)) ≤ most (Prevent at)
prevent_short at = omega (arith, line_within (Prevent at), prevent_wide at)

-- ---- all lines

many : first_thing ≡ 123
unfolding built_in_count
many = refl

-- with so few things each place that is named is low
low_names : (n : ℕ) (ks : List ℕ) → n ≤ 75000 → all_below (first_thing + n) ks ≡ true → AreLow ks
low_names n ks few low = below_more (first_thing + n) 75123 ks (omega (arith, many, few)) low

-- of a statement that defines a property to hold the value
value_fits : (at : ObjId) (v : Value) → AreLow (at.0 ∷ value_links v) → All IsLiteral (v ∷ []) → Fits v
value_fits at v low whole = (low_others at.0 (value_links v) low, All-head IsLiteral v [] whole)

line_short : (n : ℕ) (r : Rebuild) → is_next n r ≡ true → n + made_by r ≤ 75000 → AreLow (statement_names r) → HasLiterals r
    → length (line r) ≤ most r
line_short n (Make number m) next few low whole =
    let same : number ≡ n = eqb-true number n next in
    make_short number m (omega (arith, same, few)) (maker_fits m low whole)
line_short n (Append parent child) next few low whole = omega (arith, line_within (Append parent child), append_wide parent child)
line_short n (Attribute node x v) next few low whole = omega (arith, line_within (Attribute node x v), attribute_wide node x v)
line_short n (SetValue node x) next few low whole = omega (arith, line_within (SetValue node x), set_wide node x)
line_short n (Init at kind bubbles cancelable) next few low whole =
    omega (arith, line_within (Init at kind bubbles cancelable), init_wide at kind bubbles cancelable)
line_short n (Dispatch target at) next few low whole = omega (arith, line_within (Dispatch target at), dispatch_wide target at)
line_short n (Listen node kind f capture) next few low whole =
    let narrow = reference_narrow f (low_first f.0 [] (low_others node.0 (f.0 ∷ []) low)) in
    omega (arith, line_within (Listen node kind f capture), listen_wide node kind f capture, narrow)
line_short n (Define at x p) next few low whole =
    define_short at x p (value_fits at p.value low (All-tail IsLiteral (Text x) (p.value ∷ []) whole))
line_short n (DefinePrototype at v writable) next few low whole = prototype_short at v writable (value_fits at v low whole)
line_short n (DefineLength at v writable) next few low whole = length_short at v writable (value_fits at v low whole)
line_short n Filler next few low whole = omega (arith, line_within Filler, filler_wide)
line_short n (Clear id) next few low whole = omega (arith, line_within (Clear id), clear_wide id)
line_short n (Timeout f rest) next few low whole =
    omega (arith, line_within (Timeout f rest), timeout_wide f rest, reference_narrow f (low_first f.0 [] low))
line_short n (Interval f rest period) next few low whole =
    omega (arith, line_within (Interval f rest period), interval_wide f rest period, reference_narrow f (low_first f.0 [] low))
line_short n (Prevent at) next few low whole = prevent_short at

lines_short : (n : ℕ) (rs : List Rebuild) → standing n rs ≡ true → n + makes_in rs ≤ 75000
    → All HasLiterals rs → length (lines rs) ≤ cost rs
lines_short n [] stands few whole = omega arith
lines_short n (r ∷ rs) stands few whole =
    let low : Bool = all_below (first_thing + n) (statement_names r) in
    let parts = and_parts (is_next n r && low) (standing (made_by r + n) rs) stands in
    let here = and_parts (is_next n r) low parts.0 in
    let names : AreLow (statement_names r) = low_names n (statement_names r) (omega (arith, few)) here.1 in
    omega (
      arith,
      length-append (line r) (lines rs),
      line_short n r here.0 (omega (arith, few)) names (All-head HasLiterals r rs whole),
      lines_short (made_by r + n) rs parts.1 (omega (arith, few)) (All-tail HasLiterals r rs whole),
    )

pub pages_are_short : PagesAreShort
pages_are_short s things still walk few in_range =
    let rs : List Rebuild = plan (compact s things) in
    let counted : length things ≤ 75000 = omega (arith, few, few_things s things) in
    let stands : standing 0 rs ≡ true = plans_stand s things still walk in
    let body : length (lines rs) ≤ cost rs =
    lines_short 0 rs stands (omega (arith, makes_in_plan s things, counted)) in_range in
    omega (
      arith,
      ap length (page_parts rs),
      length-append page_head (lines rs ++ page_tail),
      length-append (lines rs) page_tail,
      body,
      plan_cost s things still walk counted (omega (arith, few)),
    )
