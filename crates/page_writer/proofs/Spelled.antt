-- How wide the lexemes of references and of values are.
use Rattle.std.proofs.Common.{◌≡◌, refl, ap, subst, ◌∙◌, ℕ, suc, pos, negsuc, neg_ℤ, ◌≤ℤ◌, ◌+◌, ◌-◌, ◌*◌, ◌<◌, ◌≤◌, Bool, true, false, nat_eq, nat_le, List, [], ◌∷◌, decimal, length, Option, Some, None, arith}
use Rattle.std.specs.List.{list_all}
use Rattle.std.specs.Prelude.{slice_index_or, if◌then◌else◌}
use Rattle.std.proofs.lemmas.Bool.{eqb-true, leb-true}
use Rattle.std.proofs.lemmas.Fmt.{length-decimal-le}
use Rattle.std.proofs.lemmas.Int.{ints}
use Rattle.std.proofs.lemmas.List.{length-append}
use Rattle.std.proofs.lemmas.List.Sums.{AllPass-from_list_all}
use Rattle.std.proofs.lemmas.Option.{get_or_from_slice_get, slice_get_past, slice_get_within}
use Rattle.built_in_paths.specs.Paths.{names_of, path_of, paths}
use Rattle.page_meaning.specs.Places.{built_in_count}
use Rattle.heap_walker.specs.Weight.{value_units}
use Rattle.js_core.specs.Whole.{largest}
use Rattle.js_core.specs.declared.keyword.Keyword.TheVariants as keyword
use Rattle.js_core.specs.declared.token.Punct.TheVariants as punct
use Rattle.js_print.specs.Lexemes.{expr_lexemes}
use Rattle.js_print.specs.Places.{placed}
use Rattle.js_print.specs.declared.lexeme.Lexeme.{Lexeme}
use Rattle.js_print.specs.declared.lexeme.Lexeme.TheVariants.{Keyword, Number, Punct}
use Rattle.js_print.specs.declared.place.Place.TheVariants.{Part}
use Rattle.js_values.specs.declared.ids.ObjId.{ObjId}
use Rattle.js_values.specs.declared.value.Value.{Value}
use Rattle.js_values.specs.declared.value.Value.TheVariants as value
use Rattle.page_meaning.specs.Places.{document, window}
use Rattle.rebuild_plan.specs.Moved.{first_thing}
use Rattle.rebuild_plan.specs.Plan.{thing_place}
use Rattle.page_writer.specs.Statements.{document_expr, path_expr, reference, reference_over, thing_expr, unlisted, value_expr}
use Rattle.page_writer.proofs.Fitness.{Fits, low_first}
use Rattle.page_writer.proofs.Trees.{reference_part}
use Rattle.page_writer.proofs.Widths.{count_wide, mark_wide, number_wide, text_wide, wide, wide_append}

-- ---- references

path_width : List ℕ → ℕ
path_width path = wide (expr_lexemes (path_expr (names_of path)))

paths_narrow : list_all (λ path. nat_le (path_width path) 40) paths ≡ true
unfolding paths wide path_width lib.Utf8.encode
paths_narrow = refl

path_narrow : (k : ℕ) (path : List ℕ) → path_of k ≡ Some path
    → wide (expr_lexemes (path_expr (names_of path))) ≤ 40
unfolding path_width
path_narrow k path there =
    let narrow : List ℕ → Bool = λ p. nat_le (path_width p) 40 in
    let item : slice_index_or paths k path ≡ path = get_or_from_slice_get paths k path path there in
    let short : narrow path ≡ true =
    subst (λ p. narrow p ≡ true) item
    (AllPass-from_list_all narrow paths paths_narrow k path (slice_get_within paths k path there))
    in
    leb-true (path_width path) 40 short

path_count : length paths ≡ 122
unfolding paths
path_count = refl

pub thing_narrow : (n : ℕ) → n < 75000 → wide (expr_lexemes (thing_expr n)) ≤ 10
unfolding wide lib.Utf8.encode
thing_narrow n few =
    omega (
      arith,
      length-decimal-le 5 n (omega arith) (omega arith) (omega (arith, few)),
      length-append (decimal n) (93 ∷ []),
    )

document_narrow : wide (expr_lexemes document_expr) ≤ 9
unfolding wide lib.Utf8.encode
document_narrow = omega arith

pub past_paths : (k : ℕ) → 122 ≤ k → path_of k ≡ None
past_paths k past = slice_get_past paths k (omega (arith, past, path_count))

past_document : (n : ℕ) → nat_eq (123 + n) 122 ≡ false
past_document n = by (nat_eq (123 + n) 122) refl
  where
    by : (b : Bool) → nat_eq (123 + n) 122 ≡ b → b ≡ false
    by true e = absurd (omega (arith, eqb-true (123 + n) 122 e))
    by false e = refl

pub thing_at_narrow : (n : ℕ) → n < 75000 → wide (expr_lexemes (reference (thing_place n))) ≤ 10
unfolding built_in_count
thing_at_narrow n few =
    let same : (123 + n) - 123 ≡ n = omega arith in
    let is : reference (thing_place n) ≡ thing_expr n =
    ap (λ o. reference_over (123 + n) o) (past_paths (123 + n) (omega arith))
    ∙ ap (λ b. if b then document_expr else thing_expr ((123 + n) - 123)) (past_document n)
    ∙ ap (λ m. thing_expr m) same in
    omega (arith, ap (λ e. wide (expr_lexemes e)) is, thing_narrow n few)

-- the document is reached by its name
pub document_at_narrow : wide (expr_lexemes (reference document)) ≤ 10
unfolding built_in_count
document_at_narrow =
    let is : reference document ≡ document_expr = ap (λ o. reference_over 122 o) (past_paths 122 (omega arith)) in
    omega (arith, ap (λ e. wide (expr_lexemes e)) is, document_narrow)

unlisted_narrow : (k : ℕ) → k < 75123 → wide (expr_lexemes (unlisted k)) ≤ 40
unfolding built_in_count
unlisted_narrow k low = by (nat_eq k document.0)
  where
    by : (b : Bool) → wide (expr_lexemes (if b then document_expr else thing_expr (k - first_thing))) ≤ 40
    by true = omega (arith, document_narrow)
    by false = omega (arith, thing_narrow (k - 123) (omega (arith, low)))

pub reference_narrow : (at : ObjId) → at.0 < 75123 → wide (expr_lexemes (reference at)) ≤ 40
reference_narrow at low = by (path_of at.0) refl
  where
    by : (o : Option (List ℕ)) → path_of at.0 ≡ o → wide (expr_lexemes (reference_over at.0 o)) ≤ 40
    by (Some path) there = path_narrow at.0 path there
    by None there = unlisted_narrow at.0 low

pub window_narrow : wide (expr_lexemes (reference window)) ≤ 10
unfolding paths wide lib.Utf8.encode
window_narrow = omega arith

-- ---- values

-- after a minus sign
minus_wide : (n : ℕ) → n ≤ 9007199254740991
    → wide (Punct punct.MinusSign ∷ Number (Some (pos n)) ∷ []) ≤ 18
minus_wide n small =
    omega (
      arith,
      wide_append (Punct punct.MinusSign ∷ []) (Number (Some (pos n)) ∷ []),
      number_wide n small,
      mark_wide punct.MinusSign refl,
    )

-- the lexemes of a value among others
abbrev pub part_of : Value → List Lexeme
part_of v = placed Part (value_expr v) (expr_lexemes (value_expr v))

void_wide : wide (Keyword keyword.Void ∷ []) ≡ 5
unfolding wide
void_wide = refl

constant_wide : (wide (part_of value.Null) ≤ 40) × (wide (part_of (value.Bool true)) ≤ 40)
    × (wide (part_of (value.Bool false)) ≤ 40)
    × (wide (part_of (value.Num None)) ≤ 40)
unfolding wide lib.Utf8.encode
constant_wide = (omega arith, omega arith, omega arith, omega arith)

pub value_wide : (v : Value) → Fits v → wide (part_of v) ≤ 40 + 6 * value_units v
value_wide value.Undefined fits =
    omega (
      arith,
      wide_append (Keyword keyword.Void ∷ []) (Number (Some (pos 0)) ∷ []),
      void_wide,
      count_wide 0 (omega arith),
    )
value_wide value.Null fits = omega (arith, constant_wide.0)
value_wide (value.Bool true) fits = omega (arith, constant_wide.1)
value_wide (value.Bool false) fits = omega (arith, constant_wide.2)
value_wide (value.Num None) fits = omega (arith, constant_wide.3)
value_wide (value.Num (Some (pos n))) fits =
    let small : pos n ≤ℤ pos largest = (fits.1 (pos n) refl).1 in
    omega (arith, number_wide n (omega (arith, ints)))
value_wide (value.Num (Some (negsuc n))) fits =
    let large : neg_ℤ (pos largest) ≤ℤ negsuc n = (fits.1 (negsuc n) refl).0 in
    omega (arith, minus_wide (suc n) (omega (arith, ints)))
value_wide (value.Text t) fits = omega (arith, text_wide t)
value_wide (value.Object at) fits =
    omega (arith, ap wide (reference_part at), reference_narrow at (low_first at.0 [] fits.0))
