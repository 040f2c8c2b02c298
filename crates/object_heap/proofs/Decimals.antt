-- Array indices are what numbers are written as.
use Rattle.std.proofs.Common.{◌≡◌, ◌⊎◌, inl, inr, refl, sym, ap, ◌∙◌, ℕ, ◌<◌, ◌≤◌, Bool, true, false, ◌&&◌, List, [], ◌∷◌, Some, fold, length, slice_index_or, nat_lt, rules, arith}
use Rattle.std.proofs.lemmas.Bool.{and_from, and_parts, cases_lt, lt-ltb, ltb-true}
use Rattle.std.proofs.lemmas.Bool.Decides.{nat_tests}
use Rattle.std.proofs.lemmas.Fmt.{decimal-digits_value, decimal_digit, digits_decimal, digits_value-decimal, first_decimal}
use Rattle.std.proofs.lemmas.Str.Parse.{IsNumeralModel, numerals_by_fold}
use Rattle.std.specs.Fmt.{decimal}
use Rattle.std.specs.List.{list_all}
use Rattle.object_heap.specs.Index.{begins_well, index_end, index_of, is_decimal, is_digit, number_of, with_digit}
use Rattle.object_heap.specs.Laws.{IndicesAreDecimal}

own : IsNumeralModel (λ ds. list_all is_digit ds ≡ true) number_of
own = numerals_by_fold _ (search rules) (λ n ds. fold with_digit n ds) (search rules)

begins : (name : List ℕ) → begins_well name ≡ true → (0 < length name) × (slice_index_or name 0 0 ≡ 48 → length name ≡ 1)
begins [] h = cc h
begins (u ∷ []) h = (omega arith, λ e. refl)
begins (u ∷ v ∷ us) h = (omega arith, λ e. grind (arith, nat_tests))

begins_from : (name : List ℕ) → 48 < slice_index_or name 0 0 → begins_well name ≡ true
begins_from [] h = absurd (omega (arith, h))
begins_from (u ∷ []) h = refl
begins_from (u ∷ v ∷ us) h = grind (arith, nat_tests)

begins_decimal : (i : ℕ) → i < index_end → begins_well (decimal i) ≡ true
begins_decimal i small = by (cases_lt 0 i)
  where
    by : (0 < i) ⊎ (i ≤ 0) → begins_well (decimal i) ≡ true
    by (inl more) = begins_from (decimal i) (first_decimal i more (omega (arith, small)))
    by (inr none) =
        let zero_is : i ≡ 0 = omega (arith, none) in
        rw (ap decimal zero_is ∙ decimal_digit 0 (omega arith)) refl

reads : (name : List ℕ) (i : ℕ) → index_of name ≡ Some i → (name ≡ decimal i) × (i < index_end)
reads name i h = by_case (is_decimal name && nat_lt (number_of name) index_end) refl
  where
    by_case : (b : Bool) → (is_decimal name && nat_lt (number_of name) index_end) ≡ b → (name ≡ decimal i) × (i < index_end)
    by_case false p = cc (rw p at h)
    by_case true p =
        let same : number_of name ≡ i = cc (rw p at h) in
        let small : number_of name < index_end = ltb-true (number_of name) index_end (and_parts (is_decimal name) (nat_lt (number_of name) index_end) p).1 in
        let written = (and_parts (is_decimal name) (nat_lt (number_of name) index_end) p).0 in
        let digits = (and_parts (begins_well name) (list_all is_digit name) written).1 in
        let front = begins name (and_parts (begins_well name) (list_all is_digit name) written).0 in (
          sym (decimal-digits_value own name digits front.0 front.1 (omega (arith, small))) ∙ ap decimal same,
          omega (arith, same, small),
        )

writes : (i : ℕ) → i < index_end → index_of (decimal i) ≡ Some i
writes i small =
    let value : number_of (decimal i) ≡ i = digits_value-decimal own i (omega (arith, small)) in
    let less : nat_lt (number_of (decimal i)) index_end ≡ true = ap (λ n. nat_lt n index_end) value ∙ lt-ltb i index_end small in
    let written : is_decimal (decimal i) ≡ true = and_from (begins_well (decimal i)) (list_all is_digit (decimal i)) (begins_decimal i small) (digits_decimal own i (omega (arith, small))) in
    rw (and_from (is_decimal (decimal i)) (nat_lt (number_of (decimal i)) index_end) written less) (ap Some value)

pub indices_are_decimal : IndicesAreDecimal
indices_are_decimal name i = (
  reads name i,
  λ h. ap index_of h.0 ∙ writes i h.1,
)
