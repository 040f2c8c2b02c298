-- What the grammar gives is what the definition by parts gives.
use Rattle.std.proofs.Common.{◌≡◌, ℕ, ◌<◌, ◌≤◌, ◌==◌, ◌&&◌, ◌||◌, ◌⊎◌, inl, inr, Bool, true, false, not, List, [], ◌∷◌, ◌++◌, codes, None, Err, refl, sym, ap, ◌∙◌, arith}
use Rattle.std.specs.Char.{is_digit, digit_value}
use Rattle.std.specs.List.{list_all}
use Rattle.std.specs.Str.{bytes_eq}
use Rattle.std.specs.Str.Parse.{digits_value}
use Rattle.std.proofs.lemmas.Bool.Decides.{nat_tests}
use Rattle.std.proofs.lemmas.List.Folds.{list_all-append}
use Rattle.std.proofs.lemmas.Str.Parse.{digit_from_value}
use Rattle.std.proofs.lemmas.Bool.{and_from, and_parts, not-true, not_from_false, or_parts}
use Rattle.std.proofs.Math.Bool.{and-false, or-true}
use Rattle.js_core.specs.Characters.{is_white_space, is_line_end}
use Rattle.whole_ops.specs.Arithmetic.{Outcome, whole_or_outside}
use Rattle.whole_ops.specs.WhiteSpace.{is_str_white_space, trimmed}
use Rattle.whole_ops.specs.Numeral.{are_digits, begins_with_digit, behind_digits, is_sign, without_sign, is_exponent, goes_on_as_decimal, is_decimal, behind_hex_prefix, decimal_of, hexadecimal_of, literal_of, to_whole, with_sign}
use Rattle.whole_ops.specs.Grammar.{AreDigits, IsNumeral, IsSign, no_sign, plus_sign, minus_sign, IsExponent, exponent, IsExponentOrNothing, no_exponent, some_exponent, IsDecimal, infinity, point_behind_digits, point_before_digits, exponent_behind_digits, IsLiteral, integer, decimal, hexadecimal, Writes, blank, literal}
use Rattle.whole_ops.specs.declared.fault.OpFault.TheVariants.{Outside}
use Rattle.whole_ops.proofs.EachUnit.{all-append, all-weaker}
use Rattle.whole_ops.proofs.Spans.{behind-append}
use Rattle.whole_ops.proofs.Trims.{is_within, trimmed_all, trimmed_between}

-- ---- units

pub digit_range : (c : ℕ) → is_digit c 10 ≡ true → (48 ≤ c) × (c ≤ 57)
digit_range c h = let low : digit_value c < 10 = grind (arith, nat_tests) in digit_from_value c low

hex_digit_range : (c : ℕ) → is_digit c 16 ≡ true → (48 ≤ c) × (c ≤ 102)
hex_digit_range c h = grind (arith, nat_tests)

printed : (c : ℕ) → 33 ≤ c → c ≤ 126 → is_str_white_space c ≡ false
unfolding is_white_space is_line_end
printed c l h = grind (arith, nat_tests)

-- no white space, and neither `x` nor `X`
abbrev is_plain : ℕ → Bool
is_plain c = is_within c && not ((c == 120) || (c == 88))

plain_digit : (c : ℕ) → is_digit c 10 ≡ true → is_plain c ≡ true
plain_digit c h =
    let r = digit_range c h in
    let space : is_str_white_space c ≡ false = printed c (omega arith) (omega arith) in
    let small : (c == 120) ≡ false = grind (arith, nat_tests) in
    let large : (c == 88) ≡ false = grind (arith, nat_tests) in
    rw (space, small, large)

plain_digits : (ds : List ℕ) → AreDigits 10 ds → list_all is_plain ds ≡ true
plain_digits = all-weaker (λ d. is_digit d 10) is_plain plain_digit

plain_sign : (t : List ℕ) (minus : Bool) → IsSign t minus → list_all is_plain t ≡ true
unfolding is_white_space is_line_end
plain_sign t minus (no_sign e m) = ap (list_all is_plain) e
plain_sign t minus (plus_sign e m) = ap (list_all is_plain) e
plain_sign t minus (minus_sign e m) = ap (list_all is_plain) e

exponent_mark : (c : ℕ) → (c ≡ 101) ⊎ (c ≡ 69) → is_plain c ≡ true
unfolding is_white_space is_line_end
exponent_mark c (inl e) = ap is_plain e
exponent_mark c (inr e) = ap is_plain e

plain_exponent : (t : List ℕ) → IsExponent t → list_all is_plain t ≡ true
plain_exponent t (exponent mark sign digits minus m s d e) =
    ap (list_all is_plain) e
    ∙ and_from (is_plain mark) (list_all is_plain (sign ++ digits)) (exponent_mark mark m)
    (all-append is_plain sign digits (plain_sign sign minus s) (plain_digits digits d.1))

plain_rest : (t : List ℕ) → IsExponentOrNothing t → list_all is_plain t ≡ true
plain_rest t (no_exponent e) = ap (list_all is_plain) e
plain_rest t (some_exponent x) = plain_exponent t x

plain_decimal : (t : List ℕ) → IsDecimal t → list_all is_plain t ≡ true
unfolding is_white_space is_line_end
plain_decimal t (infinity e) = ap (list_all is_plain) e
plain_decimal t (point_behind_digits whole fraction rest w f x e) =
    ap (list_all is_plain) e
    ∙ all-append is_plain whole (46 ∷ (fraction ++ rest)) (plain_digits whole w.1)
    (all-append is_plain fraction rest (plain_digits fraction f) (plain_rest rest x))
plain_decimal t (point_before_digits fraction rest f x e) =
    ap (list_all is_plain) e ∙ all-append is_plain fraction rest (plain_digits fraction f.1) (plain_rest rest x)
plain_decimal t (exponent_behind_digits whole rest w x e) =
    ap (list_all is_plain) e ∙ all-append is_plain whole rest (plain_digits whole w.1) (plain_exponent rest x)

within_plain : (t : List ℕ) → list_all is_plain t ≡ true → list_all is_within t ≡ true
within_plain = all-weaker is_plain is_within (λ u h. (and_parts (is_within u) (not ((u == 120) || (u == 88))) h).0)

within_hex_digit : (c : ℕ) → is_digit c 16 ≡ true → is_within c ≡ true
within_hex_digit c h =
    let r = hex_digit_range c h in not_from_false (is_str_white_space c) (printed c (omega arith) (omega arith))

hex_mark : (c : ℕ) → (c ≡ 120) ⊎ (c ≡ 88) → is_within c ≡ true
unfolding is_white_space is_line_end
hex_mark c (inl e) = ap is_within e
hex_mark c (inr e) = ap is_within e

within_literal : (t : List ℕ) (gives : Outcome) → IsLiteral t gives → list_all is_within t ≡ true
unfolding is_white_space is_line_end
within_literal t gives (integer sign digits minus s d e g) =
    within_plain t (ap (list_all is_plain) e ∙ all-append is_plain sign digits (plain_sign sign minus s) (plain_digits digits d.1))
within_literal t gives (decimal sign unsigned minus s d e g) =
    within_plain t (ap (list_all is_plain) e ∙ all-append is_plain sign unsigned (plain_sign sign minus s) (plain_decimal unsigned d))
within_literal t gives (hexadecimal mark digits m d e g) =
    ap (list_all is_within) e
    ∙ and_from (is_within mark) (list_all is_within digits) (hex_mark mark m) (all-weaker (λ c. is_digit c 16) is_within within_hex_digit digits d.1)

-- ---- how literals begin

-- with a unit that is no sign
abbrev begins_unsigned : List ℕ → Bool
begins_unsigned [] = false
begins_unsigned (c ∷ cs) = not (is_sign c)

no_sign_digit : (c : ℕ) → is_digit c 10 ≡ true → is_sign c ≡ false
no_sign_digit c h =
    let r = digit_range c h in
    let plus : (c == 43) ≡ false = grind (arith, nat_tests) in
    let minus : (c == 45) ≡ false = grind (arith, nat_tests) in
    rw (plus, minus)

digits_unsigned : (ds rest : List ℕ) → IsNumeral 10 ds → begins_unsigned (ds ++ rest) ≡ true
digits_unsigned [] rest h = let some = h.0 in absurd (omega arith)
digits_unsigned (c ∷ cs) rest h =
    not_from_false (is_sign c) (no_sign_digit c (and_parts (is_digit c 10) (list_all (λ d. is_digit d 10) cs) h.1).0)

digits_begin : (ds rest : List ℕ) → IsNumeral 10 ds → begins_with_digit (ds ++ rest) ≡ true
digits_begin [] rest h = let some = h.0 in absurd (omega arith)
digits_begin (c ∷ cs) rest h = (and_parts (is_digit c 10) (list_all (λ d. is_digit d 10) cs) h.1).0

decimal_unsigned : (t : List ℕ) → IsDecimal t → begins_unsigned t ≡ true
decimal_unsigned t (infinity e) = ap begins_unsigned e
decimal_unsigned t (point_behind_digits whole fraction rest w f x e) = ap begins_unsigned e ∙ digits_unsigned whole (46 ∷ (fraction ++ rest)) w
decimal_unsigned t (point_before_digits fraction rest f x e) = ap begins_unsigned e
decimal_unsigned t (exponent_behind_digits whole rest w x e) = ap begins_unsigned e ∙ digits_unsigned whole rest w

no_prefix : (c : ℕ) (cs : List ℕ) → list_all is_plain cs ≡ true → behind_hex_prefix (c ∷ cs) ≡ None
no_prefix c [] h = refl
no_prefix c (d ∷ cs) h =
    let plain = (and_parts (is_plain d) (list_all is_plain cs) h).0 in
    let no_mark : ((d == 120) || (d == 88)) ≡ false = not-true ((d == 120) || (d == 88)) (and_parts (is_within d) (not ((d == 120) || (d == 88))) plain).1 in
    rw (no_mark, and-false (c == 48))

unsigned_literal : (t : List ℕ) → begins_unsigned t ≡ true → list_all is_plain t ≡ true → literal_of t ≡ decimal_of false t
unfolding literal_of
unsigned_literal [] u h = cc
unsigned_literal (c ∷ cs) u h =
    let sign : ((c == 43) || (c == 45)) ≡ false = not-true (is_sign c) u in
    let minus : (c == 45) ≡ false = (or_parts (c == 43) (c == 45) sign).1 in
    rw (no_prefix c cs (and_parts (is_plain c) (list_all is_plain cs) h).1, sign, minus)

plus_literal : (t : List ℕ) → literal_of (43 ∷ t) ≡ decimal_of false t
unfolding literal_of
plus_literal [] = refl
plus_literal (c ∷ cs) = refl

minus_literal : (t : List ℕ) → literal_of (45 ∷ t) ≡ decimal_of true t
unfolding literal_of
minus_literal [] = refl
minus_literal (c ∷ cs) = refl

signed_literal : (sign t : List ℕ) (minus : Bool) → IsSign sign minus → begins_unsigned t ≡ true → list_all is_plain t ≡ true → literal_of (sign ++ t) ≡ decimal_of minus t
signed_literal sign t minus (no_sign e m) u h = rw (e, m) (unsigned_literal t u h)
signed_literal sign t minus (plus_sign e m) u h = rw (e, m) (plus_literal t)
signed_literal sign t minus (minus_sign e m) u h = rw (e, m) (minus_literal t)

-- ---- the parts of decimals

numeral_digits : (radix : ℕ) (ds : List ℕ) → IsNumeral radix ds → are_digits radix ds ≡ true
numeral_digits radix [] h = let some = h.0 in absurd (omega arith)
numeral_digits radix (c ∷ cs) h = h.1

no_digits : (t : List ℕ) → list_all (λ d. is_digit d 10) t ≡ false → are_digits 10 t ≡ false
no_digits [] h = refl
no_digits (c ∷ cs) h = h

mixed_digits : (s t : List ℕ) (c : ℕ) → is_digit c 10 ≡ false → list_all (λ d. is_digit d 10) (s ++ c ∷ t) ≡ false
mixed_digits s t c h =
    list_all-append (λ d. is_digit d 10) s (c ∷ t) ∙ rw (h, and-false (list_all (λ d. is_digit d 10) s))

exponent_no_digit : (c : ℕ) → (c ≡ 101) ⊎ (c ≡ 69) → is_digit c 10 ≡ false
exponent_no_digit c (inl e) = ap (λ d. is_digit d 10) e
exponent_no_digit c (inr e) = ap (λ d. is_digit d 10) e

decimal_no_digits : (t : List ℕ) → IsDecimal t → are_digits 10 t ≡ false
decimal_no_digits t (infinity e) = ap (are_digits 10) e
decimal_no_digits t (point_behind_digits whole fraction rest w f x e) =
    ap (are_digits 10) e ∙ no_digits (whole ++ 46 ∷ (fraction ++ rest)) (mixed_digits whole (fraction ++ rest) 46 refl)
decimal_no_digits t (point_before_digits fraction rest f x e) = ap (are_digits 10) e
decimal_no_digits t (exponent_behind_digits whole rest w (exponent mark sign digits minus m s d x) e) =
    ap (are_digits 10) (e ∙ ap (λ r. whole ++ r) x)
    ∙ no_digits (whole ++ mark ∷ (sign ++ digits)) (mixed_digits whole (sign ++ digits) mark (exponent_no_digit mark m))

without_sign_digits : (sign ds : List ℕ) (minus : Bool) → IsSign sign minus → IsNumeral 10 ds → are_digits 10 (without_sign (sign ++ ds)) ≡ true
without_sign_digits sign ds minus (no_sign e m) h = rw e (unsigned_digits ds h) where
  unsigned_digits : (t : List ℕ) → IsNumeral 10 t → are_digits 10 (without_sign t) ≡ true
  unsigned_digits [] h = let some = h.0 in absurd (omega arith)
  unsigned_digits (c ∷ cs) h =
      let no : ((c == 43) || (c == 45)) ≡ false = no_sign_digit c (and_parts (is_digit c 10) (list_all (λ d. is_digit d 10) cs) h.1).0 in rw no (h.1)
without_sign_digits sign ds minus (plus_sign e m) h = rw e (numeral_digits 10 ds h)
without_sign_digits sign ds minus (minus_sign e m) h = rw e (numeral_digits 10 ds h)

exponent_is : (t : List ℕ) → IsExponent t → is_exponent t ≡ true
unfolding is_exponent
exponent_is t (exponent mark sign digits minus (inl m) s d e) = rw (e, m) (without_sign_digits sign digits minus s d)
exponent_is t (exponent mark sign digits minus (inr m) s d e) = rw (e, m) (without_sign_digits sign digits minus s d)

rest_is : (t : List ℕ) → IsExponentOrNothing t → is_exponent (behind_digits t) ≡ true
unfolding is_exponent
rest_is t (no_exponent e) = rw e
rest_is t (some_exponent (exponent mark sign digits minus (inl m) s d e)) = rw (e, m) (without_sign_digits sign digits minus s d)
rest_is t (some_exponent (exponent mark sign digits minus (inr m) s d e)) = rw (e, m) (without_sign_digits sign digits minus s d)

exponent_goes_on : (t : List ℕ) → IsExponent t → goes_on_as_decimal true (behind_digits t) ≡ true
unfolding goes_on_as_decimal is_exponent
exponent_goes_on t (exponent mark sign digits minus (inl m) s d e) = rw (e, m) (without_sign_digits sign digits minus s d)
exponent_goes_on t (exponent mark sign digits minus (inr m) s d e) = rw (e, m) (without_sign_digits sign digits minus s d)

decimal_is : (t : List ℕ) → IsDecimal t → is_decimal t ≡ true
unfolding is_decimal goes_on_as_decimal
decimal_is t (infinity e) = ap is_decimal e
decimal_is t (point_behind_digits whole fraction rest w f x e) =
    let is_digit_10 = λ (c : ℕ). is_digit c 10 in
    rw (e, digits_begin whole (46 ∷ (fraction ++ rest)) w, behind-append is_digit_10 whole (46 ∷ (fraction ++ rest)) w.1, behind-append is_digit_10 fraction rest f, rest_is rest x)
    (or-true (bytes_eq (whole ++ 46 ∷ (fraction ++ rest)) (codes "Infinity")))
decimal_is t (point_before_digits fraction rest f x e) =
    let is_digit_10 = λ (c : ℕ). is_digit c 10 in
    rw (e, digits_begin fraction rest f, behind-append is_digit_10 fraction rest f.1, rest_is rest x)
decimal_is t (exponent_behind_digits whole rest w x e) =
    rw (e, digits_begin whole rest w, behind-append (λ c. is_digit c 10) whole rest w.1, exponent_goes_on rest x)
    (or-true (bytes_eq (whole ++ rest) (codes "Infinity")))

decimal_gives : (t : List ℕ) (minus : Bool) → IsDecimal t → decimal_of minus t ≡ Err Outside
unfolding decimal_of
decimal_gives t minus d = rw (decimal_no_digits t d, decimal_is t d)

integer_gives : (ds : List ℕ) (minus : Bool) → IsNumeral 10 ds → decimal_of minus ds ≡ whole_or_outside (with_sign minus (digits_value 10 ds))
unfolding decimal_of
integer_gives ds minus h = rw (numeral_digits 10 ds h)

unsigned_numeral : (ds : List ℕ) → IsNumeral 10 ds → begins_unsigned ds ≡ true
unsigned_numeral [] h = let some = h.0 in absurd (omega arith)
unsigned_numeral (c ∷ cs) h = not_from_false (is_sign c) (no_sign_digit c (and_parts (is_digit c 10) (list_all (λ d. is_digit d 10) cs) h.1).0)

-- ---- literals and texts

literal_gives : (t : List ℕ) (gives : Outcome) → IsLiteral t gives → literal_of t ≡ gives
unfolding literal_of hexadecimal_of
literal_gives t gives (integer sign digits minus s d e g) =
    ap literal_of e ∙ signed_literal sign digits minus s (unsigned_numeral digits d) (plain_digits digits d.1) ∙ integer_gives digits minus d ∙ sym g
literal_gives t gives (decimal sign unsigned minus s d e g) =
    ap literal_of e ∙ signed_literal sign unsigned minus s (decimal_unsigned unsigned d) (plain_decimal unsigned d) ∙ decimal_gives unsigned minus d ∙ sym g
literal_gives t gives (hexadecimal mark digits (inl m) d e g) = rw (e, m, numeral_digits 16 digits d) (sym g)
literal_gives t gives (hexadecimal mark digits (inr m) d e g) = rw (e, m, numeral_digits 16 digits d) (sym g)

pub agrees : (t : List ℕ) (gives : Outcome) → Writes t gives → to_whole t ≡ gives
unfolding to_whole literal_of
agrees t gives (blank space g) = ap literal_of (trimmed_all t space) ∙ sym g
agrees t gives (literal before within after first l last e) =
    ap (λ u. literal_of (trimmed u)) e
    ∙ ap literal_of (trimmed_between before within after first (within_literal within gives l) last)
    ∙ literal_gives within gives l
