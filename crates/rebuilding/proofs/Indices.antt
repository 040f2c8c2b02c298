-- The name of an element is what its number is written as: an array index, which no other number has and no name of a built-in property.
use Rattle.std.proofs.Common.{◌≡◌, ◌⊎◌, inl, inr, refl, sym, ap, ◌∙◌, ℕ, ◌<◌, ◌≤◌, Bool, true, false, List, [], ◌∷◌, Option, Some, None, is_none, fold, slice_index_or, nat_lt, bytes_eq, rules, arith}
use Rattle.std.proofs.lemmas.Bool.{and_from, and_parts, cases_lt, cond-false, lt-ltb}
use Rattle.std.proofs.lemmas.Bool.Decides.{nat_tests}
use Rattle.std.proofs.lemmas.Fmt.{decimal_digit, digits_decimal, digits_value-decimal, first_decimal}
use Rattle.std.proofs.lemmas.Option.{none-some, same_Some}
use Rattle.std.proofs.lemmas.Slice.Eq.{bytes_eq-Decides}
use Rattle.std.proofs.lemmas.Str.Parse.{IsNumeralModel, numerals_by_fold}
use Rattle.std.specs.Fmt.{decimal}
use Rattle.std.specs.List.{list_all}
use Rattle.object_heap.specs.Define.{length_name}
use Rattle.object_heap.specs.Index.{begins_well, index_end, index_of, is_decimal, is_digit, number_of, with_digit}
use Rattle.object_heap.specs.Property.{Props, own_property}

-- ---- a number is written as an index

own : IsNumeralModel (λ ds. list_all is_digit ds ≡ true) number_of
own = numerals_by_fold _ (search rules) (λ n ds. fold with_digit n ds) (search rules)

begins_from : (name : List ℕ) → 48 < slice_index_or name 0 0 → begins_well name ≡ true
begins_from [] h = absurd (omega (arith, h))
begins_from (u ∷ []) h = refl
begins_from (u ∷ v ∷ us) h = grind (arith, nat_tests)

begins_decimal : (i : ℕ) → i < index_end → begins_well (decimal i) ≡ true
begins_decimal i small = by (cases_lt 0 i)
  where
    by : (0 < i) ⊎ (i ≤ 0) → begins_well (decimal i) ≡ true
    by (inl more) = begins_from (decimal i) (first_decimal i more (omega (arith, small)))
    by (inr none) =
        let zero_is : i ≡ 0 = omega (arith, none) in
        rw (ap decimal zero_is ∙ decimal_digit 0 (omega arith)) refl

pub index_of_decimal : (i : ℕ) → i < index_end → index_of (decimal i) ≡ Some i
index_of_decimal i small =
    let value : number_of (decimal i) ≡ i = digits_value-decimal own i (omega (arith, small)) in
    let less : nat_lt (number_of (decimal i)) index_end ≡ true = ap (λ n. nat_lt n index_end) value ∙ lt-ltb i index_end small in
    let written : is_decimal (decimal i) ≡ true = and_from (begins_well (decimal i)) (list_all is_digit (decimal i))
    (begins_decimal i small) (digits_decimal own i (omega (arith, small))) in
    rw (and_from (is_decimal (decimal i)) (nat_lt (number_of (decimal i)) index_end) written less) (ap Some value)

-- ---- other names are others

pub decimal_apart : (i : ℕ) (x : List ℕ) → i < index_end → (index_of x ≡ Some i → ⊥) → bytes_eq (decimal i) x ≡ false
decimal_apart i x small other = by (bytes_eq (decimal i) x) refl
  where
    by : (b : Bool) → bytes_eq (decimal i) x ≡ b → bytes_eq (decimal i) x ≡ false
    by false e = e
    by true e = absurd (other (ap index_of (sym ((bytes_eq-Decides (decimal i) x).0 e)) ∙ index_of_decimal i small))

pub decimal_other : (i j : ℕ) → i < index_end → j < index_end → (i ≡ j → ⊥) → bytes_eq (decimal i) (decimal j) ≡ false
decimal_other i j small below other =
    decimal_apart i (decimal j) small (λ e. other (same_Some i j (sym e ∙ index_of_decimal j below)))

pub decimal_same : (i j : ℕ) → i ≡ j → bytes_eq (decimal i) (decimal j) ≡ true
decimal_same i j same = (bytes_eq-Decides (decimal i) (decimal j)).1 (ap decimal same)

length_no_index : index_of length_name ≡ None
length_no_index = refl

pub decimal_not_length : (i : ℕ) → i < index_end → bytes_eq (decimal i) length_name ≡ false
decimal_not_length i small = decimal_apart i length_name small (λ e. none-some i (sym length_no_index ∙ e))

-- ---- properties none of whose names is an index

abbrev pub are_named : Props → Bool
are_named ps = list_all (λ e. is_none (index_of e.0)) ps

not_some : (o : Option ℕ) (i : ℕ) → is_none o ≡ true → o ≡ Some i → ⊥
not_some None i h e = none-some i e
not_some (Some j) i h e = cc h

pub no_index_among : (ps : Props) (i : ℕ) → i < index_end → are_named ps ≡ true → own_property ps (decimal i) ≡ None
no_index_among [] i small h = refl
no_index_among (e ∷ es) i small h =
    let parts = and_parts (is_none (index_of e.0)) (are_named es) h in
    cond-false (bytes_eq (decimal i) e.0) _ _ (decimal_apart i e.0 small (not_some (index_of e.0) i parts.0))
    ∙ no_index_among es i small parts.1
