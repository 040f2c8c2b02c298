-- The text of a number is read as that number.
use Rattle.std.proofs.Common.{◌≡◌, ℕ, suc, ◌<◌, ◌≤◌, ◌^◌, ℤ, pos, negsuc, unsigned_abs, neg_ℤ, true, false, List, [], ◌∷◌, codes, None, Some, Result, Ok, Err, IfOk, refl, sym, ap, ◌∙◌, arith, append-nil}
use Rattle.std.specs.Prelude.{nat_le}
use Rattle.std.specs.Char.{is_digit}
use Rattle.std.specs.List.{list_all}
use Rattle.std.specs.Fmt.{decimal, signed_decimal}
use Rattle.std.specs.Str.Parse.{digits_value}
use Rattle.std.proofs.lemmas.Bool.Decides.{nat_tests}
use Rattle.std.proofs.lemmas.Fmt.{digits_decimal, digits_value-decimal, decimal_nonempty}
use Rattle.std.proofs.lemmas.Str.Parse.{IsDigitsTest, IsNumeralModel, numerals_by_value}
use Rattle.std.proofs.lemmas.Bool.{and_from, and_parts}
use Rattle.js_core.specs.Characters.{is_white_space, is_line_end}
use Rattle.js_core.specs.Whole.{largest}
use Rattle.whole_ops.specs.Arithmetic.{Outcome, whole_or_outside}
use Rattle.whole_ops.specs.WhiteSpace.{trimmed}
use Rattle.whole_ops.specs.Numeral.{is_exponent, goes_on_as_decimal, is_decimal, decimal_of, literal_of, to_whole, text_of_whole}
use Rattle.whole_ops.specs.Grammar.{AreDigits, IsNumeral, no_sign, minus_sign, integer, literal}
use Rattle.whole_ops.proofs.Agreement.{digit_range, agrees}

is_digit_in_range : (c : ℕ) → 48 ≤ c → c ≤ 57 → is_digit c 10 ≡ true
is_digit_in_range c l h = grind (arith, nat_tests)

tells : IsDigitsTest (AreDigits 10)
tells = record {
  empty = refl;
  parts = λ c cs h. (digit_range c (and_parts (is_digit c 10) (list_all (λ d. is_digit d 10) cs) h).0, (and_parts (is_digit c 10) (list_all (λ d. is_digit d 10) cs) h).1);
  more = λ c cs r h. and_from (is_digit c 10) (list_all (λ d. is_digit d 10) cs) (is_digit_in_range c r.0 r.1) h;
}

own : IsNumeralModel (AreDigits 10) (digits_value 10)
own = numerals_by_value (AreDigits 10) tells

decimal_numeral : (n : ℕ) → n < 2 ^ 64 → IsNumeral 10 (decimal n)
decimal_numeral n h = (decimal_nonempty n h, digits_decimal own n h)

in_range : (z : ℤ) → unsigned_abs z ≤ largest → Ok (Some z) ≡ whole_or_outside z
in_range z h = let yes : nat_le (unsigned_abs z) largest ≡ true = grind (arith, nat_tests) in rw yes

pub reads_back : (z : ℤ) → unsigned_abs z ≤ largest → to_whole (signed_decimal z) ≡ Ok (Some z)
reads_back (pos n) h =
    let wide : n < 2 ^ 64 = omega arith in
    let value : Ok (Some (pos n)) ≡ whole_or_outside (pos (digits_value 10 (decimal n))) = rw (digits_value-decimal own n wide) (in_range (pos n) h) in
    agrees (decimal n) (Ok (Some (pos n)))
    (literal [] (decimal n) [] refl (integer [] (decimal n) false (no_sign refl refl) (decimal_numeral n wide) refl value) refl (sym (append-nil (decimal n))))
reads_back (negsuc n) h =
    let wide : suc n < 2 ^ 64 = omega arith in
    let text = 45 ∷ decimal (suc n) in
    let value : Ok (Some (negsuc n)) ≡ whole_or_outside (neg_ℤ (pos (digits_value 10 (decimal (suc n))))) = rw (digits_value-decimal own (suc n) wide) (in_range (negsuc n) h) in
    agrees text (Ok (Some (negsuc n)))
    (literal [] text [] refl (integer (codes "-") (decimal (suc n)) true (minus_sign refl refl) (decimal_numeral (suc n) wide) refl value) refl (sym (append-nil text)))

pub nan_reads_back : to_whole (text_of_whole None) ≡ Ok None
unfolding to_whole trimmed literal_of decimal_of is_decimal goes_on_as_decimal is_exponent is_white_space is_line_end
nan_reads_back = refl

-- a text that was made, unless memory failed
pub carry : {E : Type 0} (made : Result (List ℕ) E) (text : List ℕ) (gives : Outcome) → IfOk made (λ t. t ≡ text) → to_whole text ≡ gives → IfOk made (λ t. to_whole t ≡ gives)
carry (Ok t) text gives h e = ap to_whole h ∙ e
carry (Err x) text gives h e = tt
