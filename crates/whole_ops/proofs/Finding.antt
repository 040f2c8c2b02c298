-- Where the definition by parts does not give NaN, the grammar gives the same.
use Rattle.std.proofs.Common.{◌≡◌, ℕ, ◌<◌, ◌==◌, ◌&&◌, ◌||◌, ◌⊎◌, inl, inr, Bool, true, false, List, [], ◌∷◌, ◌++◌, length, codes, Option, None, Some, Ok, refl, ap, ◌∙◌, arith}
use Rattle.std.specs.Char.{is_digit}
use Rattle.std.specs.List.{list_all}
use Rattle.std.specs.Str.{bytes_eq}
use Rattle.std.proofs.lemmas.Bool.Decides.{nat_tests}
use Rattle.std.proofs.lemmas.Slice.Eq.{bytes_eq-Decides}
use Rattle.std.proofs.lemmas.Bool.{and_parts}
use Rattle.js_core.specs.Whole.{nan}
use Rattle.whole_ops.specs.WhiteSpace.{is_str_white_space, trimmed}
use Rattle.whole_ops.specs.Numeral.{are_digits, begins_with_digit, behind_digits, begins_with_minus, without_sign, is_exponent, goes_on_as_decimal, is_decimal, behind_hex_prefix, decimal_of, hexadecimal_of, literal_behind, literal_of, to_whole}
use Rattle.whole_ops.specs.Grammar.{IsNumeral, IsSign, no_sign, plus_sign, minus_sign, IsExponent, exponent, IsExponentOrNothing, no_exponent, some_exponent, IsDecimal, infinity, point_behind_digits, point_before_digits, exponent_behind_digits, IsLiteral, integer, decimal, hexadecimal, Writes, blank, literal}
use Rattle.whole_ops.proofs.EachUnit.{all-append}
use Rattle.whole_ops.proofs.Spans.{taken, taken-behind, taken_pass, taken_yes, taken_no}
use Rattle.whole_ops.proofs.Trims.{trimmed_parts}

abbrev is_decimal_digit : ℕ → Bool
is_decimal_digit c = is_digit c 10

-- ---- digits and signs

numeral_found : (radix : ℕ) (t : List ℕ) → are_digits radix t ≡ true → IsNumeral radix t
numeral_found radix [] h = cc
numeral_found radix (c ∷ cs) h = (omega arith, h)

numeral_begins : (t : List ℕ) → begins_with_digit t ≡ true → IsNumeral 10 (taken is_decimal_digit t)
numeral_begins [] h = cc
numeral_begins (c ∷ cs) h =
    let some : 0 < length (taken is_decimal_digit (c ∷ cs)) = rw (taken_yes is_decimal_digit c cs h) (omega arith) in
    (some, taken_pass is_decimal_digit (c ∷ cs))

no_numeral_begins : (t : List ℕ) → begins_with_digit t ≡ false → taken is_decimal_digit t ≡ []
no_numeral_begins [] h = refl
no_numeral_begins (c ∷ cs) h = taken_no is_decimal_digit c cs h

record SignParts (t : List ℕ) : Type 0 where
  sign : List ℕ
  is : IsSign sign (begins_with_minus t)
  joined : t ≡ sign ++ without_sign t

plus_parts : (c : ℕ) (cs : List ℕ) → c ≡ 43 → SignParts (c ∷ cs)
plus_parts c cs e = record { sign = codes "+"; is = plus_sign refl (rw e); joined = rw e }

minus_parts : (c : ℕ) (cs : List ℕ) → c ≡ 45 → SignParts (c ∷ cs)
minus_parts c cs e = record { sign = codes "-"; is = minus_sign refl (rw e); joined = rw e }

other_parts : (c : ℕ) (cs : List ℕ) → (c == 43) ≡ false → (c == 45) ≡ false → SignParts (c ∷ cs)
other_parts c cs plus minus = record { sign = []; is = no_sign refl minus; joined = rw (plus, minus) }

sign_parts : (t : List ℕ) → SignParts t
sign_parts [] = record { sign = []; is = no_sign refl refl; joined = refl }
sign_parts (c ∷ cs) = by_case (c == 43) refl (c == 45) refl where
  by_case : (plus : Bool) → (c == 43) ≡ plus → (minus : Bool) → (c == 45) ≡ minus → SignParts (c ∷ cs)
  by_case true p minus m = plus_parts c cs (grind (arith, nat_tests))
  by_case false p true m = minus_parts c cs (grind (arith, nat_tests))
  by_case false p false m = other_parts c cs p m

one_of_two : (c a b : ℕ) → ((c == a) || (c == b)) ≡ true → (c ≡ a) ⊎ (c ≡ b)
one_of_two c a b h = by_case (c == a) refl (c == b) refl where
  by_case : (first : Bool) → (c == a) ≡ first → (second : Bool) → (c == b) ≡ second → (c ≡ a) ⊎ (c ≡ b)
  by_case true p second q = inl (grind (arith, nat_tests))
  by_case false p true q = inr (grind (arith, nat_tests))
  by_case false p false q = let no = rw (p, q) at h in cc

-- ---- decimals

exponent_found : (c : ℕ) (cs : List ℕ) → is_exponent (c ∷ cs) ≡ true → IsExponent (c ∷ cs)
unfolding is_exponent
exponent_found c cs h =
    let mark = (and_parts ((c == 101) || (c == 69)) (are_digits 10 (without_sign cs)) h).0 in
    let digits = (and_parts ((c == 101) || (c == 69)) (are_digits 10 (without_sign cs)) h).1 in
    let parts = sign_parts cs in
    exponent c parts.sign (without_sign cs) (begins_with_minus cs) (one_of_two c 101 69 mark) parts.is (numeral_found 10 (without_sign cs) digits) (ap (λ t. c ∷ t) parts.joined)

rest_found : (t : List ℕ) → is_exponent t ≡ true → IsExponentOrNothing t
rest_found [] h = no_exponent refl
rest_found (c ∷ cs) h = some_exponent (exponent_found c cs h)

digits_alone : (t : List ℕ) → begins_with_digit t ≡ true → behind_digits t ≡ [] → are_digits 10 t ≡ true
digits_alone [] b e = cc
digits_alone (c ∷ cs) b e =
    ap (list_all is_decimal_digit) (taken-behind is_decimal_digit (c ∷ cs) ∙ ap (λ r. taken is_decimal_digit (c ∷ cs) ++ r) e)
    ∙ all-append is_decimal_digit (taken is_decimal_digit (c ∷ cs)) [] (taken_pass is_decimal_digit (c ∷ cs)) refl

point_found : (t cs : List ℕ) → behind_digits t ≡ 46 ∷ cs → (begins_with_digit t || begins_with_digit cs) ≡ true → is_exponent (behind_digits cs) ≡ true → IsDecimal t
point_found t cs e some x = by_case (begins_with_digit t) refl where
  fraction : cs ≡ taken is_decimal_digit cs ++ behind_digits cs
  fraction = taken-behind is_decimal_digit cs

  whole : t ≡ taken is_decimal_digit t ++ 46 ∷ (taken is_decimal_digit cs ++ behind_digits cs)
  whole = taken-behind is_decimal_digit t ∙ ap (λ r. taken is_decimal_digit t ++ r) (e ∙ ap (λ r. 46 ∷ r) fraction)

  by_case : (b : Bool) → begins_with_digit t ≡ b → IsDecimal t
  by_case true b = point_behind_digits (taken is_decimal_digit t) (taken is_decimal_digit cs) (behind_digits cs) (numeral_begins t b) (taken_pass is_decimal_digit cs) (rest_found (behind_digits cs) x) whole
  by_case false b =
      let digits = rw b at some in
      point_before_digits (taken is_decimal_digit cs) (behind_digits cs) (numeral_begins cs digits) (rest_found (behind_digits cs) x)
      (whole ∙ ap (λ r. r ++ 46 ∷ (taken is_decimal_digit cs ++ behind_digits cs)) (no_numeral_begins t b))

goes_found : (t rest : List ℕ) → behind_digits t ≡ rest → goes_on_as_decimal (begins_with_digit t) rest ≡ true → are_digits 10 t ≡ false → IsDecimal t
unfolding goes_on_as_decimal
goes_found t [] e h n = let all = digits_alone t h e in cc
goes_found t (c ∷ cs) e h n = by_case (c == 46) refl where
  by_case : (b : Bool) → (c == 46) ≡ b → IsDecimal t
  by_case true k =
      let point : c ≡ 46 = grind (arith, nat_tests) in
      let parts = rw k at h in
      point_found t cs (e ∙ ap (λ d. d ∷ cs) point) (and_parts (begins_with_digit t || begins_with_digit cs) (is_exponent (behind_digits cs)) parts).0
      (and_parts (begins_with_digit t || begins_with_digit cs) (is_exponent (behind_digits cs)) parts).1
  by_case false k =
      let parts = rw k at h in
      exponent_behind_digits (taken is_decimal_digit t) (c ∷ cs) (numeral_begins t (and_parts (begins_with_digit t) (is_exponent (c ∷ cs)) parts).0)
      (exponent_found c cs (and_parts (begins_with_digit t) (is_exponent (c ∷ cs)) parts).1)
      (taken-behind is_decimal_digit t ∙ ap (λ r. taken is_decimal_digit t ++ r) e)

decimal_found : (t : List ℕ) → is_decimal t ≡ true → are_digits 10 t ≡ false → IsDecimal t
unfolding is_decimal
decimal_found t h n = by_case (bytes_eq t (codes "Infinity")) refl where
  by_case : (b : Bool) → bytes_eq t (codes "Infinity") ≡ b → IsDecimal t
  by_case true k = infinity ((bytes_eq-Decides t (codes "Infinity")).0 k)
  by_case false k = goes_found t (behind_digits t) refl (rw k at h) n

-- ---- literals

record HexParts (t digits : List ℕ) : Type 0 where
  mark : ℕ
  is : (mark ≡ 120) ⊎ (mark ≡ 88)
  joined : t ≡ 48 ∷ mark ∷ digits

hex_parts : (t digits : List ℕ) → behind_hex_prefix t ≡ Some digits → HexParts t digits
hex_parts [] digits e = cc
hex_parts (c ∷ []) digits e = cc
hex_parts (c ∷ d ∷ cs) digits e = by_case ((c == 48) && ((d == 120) || (d == 88))) refl where
  by_case : (b : Bool) → ((c == 48) && ((d == 120) || (d == 88))) ≡ b → HexParts (c ∷ d ∷ cs) digits
  by_case true k =
      let zero : (c == 48) ≡ true = (and_parts (c == 48) ((d == 120) || (d == 88)) k).0 in
      let is_zero : c ≡ 48 = grind (arith, nat_tests) in
      let same = rw k at e in
      let rest : cs ≡ digits = cc in
      record { mark = d; is = one_of_two d 120 88 (and_parts (c == 48) ((d == 120) || (d == 88)) k).1; joined = rw (is_zero, rest) }
  by_case false k = let none = rw k at e in cc

hexadecimal_found : (t digits : List ℕ) → HexParts t digits → (hexadecimal_of digits ≡ Ok nan) ⊎ IsLiteral t (hexadecimal_of digits)
unfolding hexadecimal_of
hexadecimal_found t digits parts = by_case (are_digits 16 digits) refl where
  by_case : (b : Bool) → are_digits 16 digits ≡ b → (hexadecimal_of digits ≡ Ok nan) ⊎ IsLiteral t (hexadecimal_of digits)
  by_case true k = inr (hexadecimal parts.mark digits parts.is (numeral_found 16 digits k) parts.joined (rw k))
  by_case false k = inl (rw k)

signed_found : (t : List ℕ) → (decimal_of (begins_with_minus t) (without_sign t) ≡ Ok nan) ⊎ IsLiteral t (decimal_of (begins_with_minus t) (without_sign t))
unfolding decimal_of
signed_found t = by_case (are_digits 10 (without_sign t)) refl (is_decimal (without_sign t)) refl where
  by_case : (whole : Bool) → are_digits 10 (without_sign t) ≡ whole → (other : Bool) → is_decimal (without_sign t) ≡ other → (decimal_of (begins_with_minus t) (without_sign t) ≡ Ok nan) ⊎ IsLiteral t (decimal_of (begins_with_minus t) (without_sign t))
  by_case true k other d =
      let parts = sign_parts t in
      inr (integer parts.sign (without_sign t) (begins_with_minus t) parts.is (numeral_found 10 (without_sign t) k) parts.joined (rw k))
  by_case false k true d =
      let parts = sign_parts t in
      inr (decimal parts.sign (without_sign t) (begins_with_minus t) parts.is (decimal_found (without_sign t) d k) parts.joined (rw (k, d)))
  by_case false k false d = inl (rw (k, d))

literal_found : (c : ℕ) (cs : List ℕ) → (literal_of (c ∷ cs) ≡ Ok nan) ⊎ IsLiteral (c ∷ cs) (literal_of (c ∷ cs))
unfolding literal_of
literal_found c cs = by_case (behind_hex_prefix (c ∷ cs)) refl where
  by_case : (o : Option (List ℕ)) → behind_hex_prefix (c ∷ cs) ≡ o → (literal_behind o (c ∷ cs) ≡ Ok nan) ⊎ IsLiteral (c ∷ cs) (literal_behind o (c ∷ cs))
  by_case None e = signed_found (c ∷ cs)
  by_case (Some digits) e = hexadecimal_found (c ∷ cs) digits (hex_parts (c ∷ cs) digits e)

-- ---- texts

pub found : (t : List ℕ) → (to_whole t ≡ Ok nan) ⊎ Writes t (to_whole t)
unfolding to_whole literal_of
found t = by_case (trimmed t) refl where
  by_case : (u : List ℕ) → trimmed t ≡ u → (literal_of u ≡ Ok nan) ⊎ Writes t (literal_of u)
  by_case [] e =
      let parts = trimmed_parts t in
      inr (blank (ap (list_all is_str_white_space) (parts.joined ∙ ap (λ u. parts.before ++ u ++ parts.after) e) ∙ all-append is_str_white_space (parts.before ++ []) parts.after (all-append is_str_white_space parts.before [] parts.first refl) parts.last) refl)
  by_case (c ∷ cs) e =
      let parts = trimmed_parts t in
      elim (literal_found c cs) [
        | inl n ↦ inl n
        | inr l ↦ inr (literal parts.before (c ∷ cs) parts.after parts.first l parts.last (parts.joined ∙ ap (λ u. parts.before ++ u ++ parts.after) e))
      ]
