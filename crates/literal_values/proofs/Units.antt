-- Texts of 16-bit units whose lengths are numbers of the language.
use Rattle.std.proofs.Common.{◌≡◌, refl, subst, ℕ, zero, suc, ℤ, pos, negsuc, codes, ◌+◌, ◌-◌, ◌%◌, ◌/◌, ◌==◌, ◌<◌, ◌≤◌, ◌&&◌, Bool, true, false, if◌then◌else◌, List, [], ◌∷◌, ◌++◌, length, map, reverse, take, drop, slice_range, Option, Some, None, option_to_list, nat_le, nat_lt, decimal, slice_get, mod-lt, arith, length-append}
use Rattle.std.specs.List.{list_all, prefix_len}
use Rattle.std.specs.Option.{ForSome}
use Rattle.std.specs.Char.{to_ascii_lowercase, to_ascii_uppercase}
use Rattle.std.specs.Fmt.{digit_glyph, digits, digits_onto}
use Rattle.std.proofs.lemmas.Bool.{and_parts, leb-true, ltb-true}
use Rattle.std.proofs.lemmas.List.{length-map, length-reverse}
use Rattle.std.proofs.lemmas.List.Elements.{All-append, All-cons, All-drop, All-head, All-map, All-nil, All-tail, All-take, All-weaker}
use Rattle.std.proofs.lemmas.Bool.Decides.{nat_tests}
use mathlib.Core.List.{reverse_aux}
use Rattle.js_core.specs.Text.{AllUnits}
use Rattle.js_core.specs.Whole.{largest}
use Rattle.whole_ops.specs.Numeral.{text_of_whole}
use Rattle.whole_ops.specs.WhiteSpace.{behind, is_str_white_space, trimmed}
use Rattle.literal_values.specs.Values.{IsName, IsText}

-- ---- units

abbrev IsUnit : ℕ → Type 0
IsUnit u = u < 65536

abbrev pub are_units : List ℕ → Bool
are_units t = list_all (λ u. nat_lt u 65536) t

-- of a text that is written out it is seen
pub units_seen : (t : List ℕ) → are_units t ≡ true → AllUnits t
units_seen [] h = All-nil IsUnit
units_seen (u ∷ us) h =
    let parts = and_parts (nat_lt u 65536) (are_units us) h in
    All-cons IsUnit u us (ltb-true u 65536 parts.0) (units_seen us parts.1)

pub no_units : AllUnits []
no_units = All-nil IsUnit

pub joined_units : (t u : List ℕ) → AllUnits t → AllUnits u → AllUnits (t ++ u)
joined_units t u h k = All-append IsUnit t u h k

units_onto : (t acc : List ℕ) → AllUnits t → AllUnits acc → AllUnits (reverse_aux t acc)
units_onto [] acc h k = k
units_onto (u ∷ us) acc h k = units_onto us (u ∷ acc) (All-tail IsUnit u us h) (All-cons IsUnit u acc (All-head IsUnit u us h) k)

pub reversed_units : (t : List ℕ) → AllUnits t → AllUnits (reverse t)
reversed_units t h = units_onto t [] h no_units

pub unit_there : (t : List ℕ) (i : ℕ) → AllUnits t → ForSome (slice_get t i) IsUnit
unit_there [] i h u e = absurd (cc e)
unit_there (u ∷ us) zero h v e = subst IsUnit (cc e) (All-head IsUnit u us h)
unit_there (u ∷ us) (suc i) h v e = unit_there us i (All-tail IsUnit u us h) v e

lower_small : (u : ℕ) → u < 65536 → to_ascii_lowercase u < 65536
lower_small u h = grind (arith, nat_tests)

upper_small : (u : ℕ) → u < 65536 → to_ascii_uppercase u < 65536
upper_small u h = grind (arith, nat_tests)

-- ---- digits

glyph_small : (d : ℕ) → d < 36 → digit_glyph false d < 65536
glyph_small d h = grind (arith, nat_tests)

digit_units : (k base n : ℕ) (acc : List ℕ) → 0 < base → base ≤ 36 → AllUnits acc → AllUnits (digits_onto k base false n acc)
digit_units zero base n acc low high h = h
digit_units (suc k) base n acc low high h =
    let more : AllUnits (digit_glyph false (n % base) ∷ acc) = All-cons IsUnit (digit_glyph false (n % base)) acc (glyph_small (n % base) (omega (arith, mod-lt n low))) h in
    by_case (n / base == 0) more (digit_units k base (n / base) (digit_glyph false (n % base) ∷ acc) low high more)
  where
    by_case : (b : Bool) → AllUnits (digit_glyph false (n % base) ∷ acc) → AllUnits (digits_onto k base false (n / base) (digit_glyph false (n % base) ∷ acc))
        → AllUnits (if b then digit_glyph false (n % base) ∷ acc else digits_onto k base false (n / base) (digit_glyph false (n % base) ∷ acc))
    by_case true one all = one
    by_case false one all = all

digit_count : (k base n : ℕ) (acc : List ℕ) → length (digits_onto k base false n acc) ≤ k + length acc
digit_count zero base n acc = omega arith
digit_count (suc k) base n acc = by_case (n / base == 0) (digit_count k base (n / base) (digit_glyph false (n % base) ∷ acc))
  where
    by_case : (b : Bool) → length (digits_onto k base false (n / base) (digit_glyph false (n % base) ∷ acc)) ≤ k + suc (length acc)
        → length (if b then digit_glyph false (n % base) ∷ acc else digits_onto k base false (n / base) (digit_glyph false (n % base) ∷ acc)) ≤ suc k + length acc
    by_case true all = omega arith
    by_case false all = omega (arith, all)

-- ---- lengths

take_short : (n : ℕ) (t : List ℕ) → length (take n t) ≤ length t
take_short zero t = omega arith
take_short (suc n) [] = omega arith
take_short (suc n) (u ∷ us) = omega (arith, take_short n us)

drop_short : (n : ℕ) (t : List ℕ) → length (drop n t) ≤ length t
drop_short zero t = omega arith
drop_short (suc n) [] = omega arith
drop_short (suc n) (u ∷ us) = omega (arith, drop_short n us)

-- ---- texts

abbrev pub is_text : List ℕ → Bool
is_text t = are_units t && nat_le (length t) largest

-- of a text that is written out it is seen
pub text_seen : (t : List ℕ) → is_text t ≡ true → IsText t
text_seen t h =
    let parts = and_parts (are_units t) (nat_le (length t) largest) h in
    (units_seen t parts.0, leb-true (length t) largest parts.1)

pub no_text : IsText []
no_text = (no_units, omega arith)

pub unit_text : (u : ℕ) → u < 65536 → IsText (u ∷ [])
unit_text u h = (All-cons IsUnit u [] h no_units, omega arith)

pub optional_text : (o : Option ℕ) → ForSome o (λ u. u < 65536) → IsText (option_to_list o)
optional_text None h = no_text
optional_text (Some u) h = unit_text u (h u refl)

pub taken_text : (n : ℕ) (t : List ℕ) → IsText t → IsText (take n t)
taken_text n t h = (All-take IsUnit n t h.0, omega (arith, take_short n t, h.1))

pub dropped_text : (n : ℕ) (t : List ℕ) → IsText t → IsText (drop n t)
dropped_text n t h = (All-drop IsUnit n t h.0, omega (arith, drop_short n t, h.1))

pub range_text : (t : List ℕ) (a b : ℕ) → IsText t → IsText (slice_range t a b)
range_text t a b h = taken_text (b - a) (drop a t) (dropped_text a t h)

pub reversed_text : (t : List ℕ) → IsText t → IsText (reverse t)
reversed_text t h = (reversed_units t h.0, omega (arith, length-reverse t, h.1))

pub lower_text : (t : List ℕ) → IsText t → IsText (map to_ascii_lowercase t)
lower_text t h = (All-map IsUnit to_ascii_lowercase t (All-weaker IsUnit (λ u. to_ascii_lowercase u < 65536) lower_small t h.0), omega (arith, length-map t to_ascii_lowercase, h.1))

pub upper_text : (t : List ℕ) → IsText t → IsText (map to_ascii_uppercase t)
upper_text t h = (All-map IsUnit to_ascii_uppercase t (All-weaker IsUnit (λ u. to_ascii_uppercase u < 65536) upper_small t h.0), omega (arith, length-map t to_ascii_uppercase, h.1))

-- two that are short enough together
pub joined_text : (t u : List ℕ) → IsText t → IsText u → length t + length u ≤ largest → IsText (t ++ u)
joined_text t u h k short = (joined_units t u h.0 k.0, omega (arith, length-append t u, short))

-- a name is a text
pub name_text : (t : List ℕ) → IsName t → IsText t
name_text t h = (h.0, omega (arith, h.1))

-- of at most 64 digits
pub digits_text : (base n : ℕ) → 0 < base → base ≤ 36 → IsText (digits base false n)
unfolding digits
digits_text base n low high = (digit_units 64 base n [] low high no_units, omega (arith, digit_count 64 base n []))

pub decimal_text : (n : ℕ) → IsText (decimal n)
decimal_text n = digits_text 10 n (omega arith) (omega arith)

-- with a sign
pub minus_text : (base n : ℕ) → 0 < base → base ≤ 36 → IsText (45 ∷ digits base false n)
unfolding digits
minus_text base n low high = (All-cons IsUnit 45 _ (omega arith) (digit_units 64 base n [] low high no_units), omega (arith, digit_count 64 base n []))

pub whole_text : (n : Option ℤ) → IsText (text_of_whole n)
whole_text None = text_seen (codes "NaN") refl
whole_text (Some (pos n)) = decimal_text n
whole_text (Some (negsuc n)) = minus_text 10 (suc n) (omega arith) (omega arith)

pub trimmed_text : (t : List ℕ) → IsText t → IsText (trimmed t)
unfolding trimmed
trimmed_text t h =
    reversed_text _ (dropped_text (prefix_len is_str_white_space (reverse (behind is_str_white_space t))) (reverse (behind is_str_white_space t))
    (reversed_text (behind is_str_white_space t) (dropped_text (prefix_len is_str_white_space t) t h)))
