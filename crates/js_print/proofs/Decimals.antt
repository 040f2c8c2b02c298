-- The digits of a number.
use Rattle.std.proofs.Common.{◌≡◌, ℕ, ◌<◌, ◌≤◌, ◌^◌, true, List, [], ◌∷◌, length, get_or, refl, lit<, arith}
use Rattle.std.specs.Prelude.{nat_le, decimal}
use Rattle.std.specs.Char.{is_digit, is_ascii_digit}
use Rattle.std.specs.List.{list_all}
use Rattle.std.specs.Str.{all_ascii_digits}
use Rattle.std.specs.Str.Parse.{digits_value}
use Rattle.std.proofs.lemmas.Bool.Decides.{nat_tests}
use Rattle.std.proofs.lemmas.Fmt.{digits_decimal, digits_value-decimal, decimal_nonempty, first_decimal, decimal_digit}
use Rattle.std.proofs.lemmas.Str.Parse.{IsNumeralModel, numerals_by_value, tells_all_ascii_digits}
use Rattle.std.proofs.lemmas.Bool.{and_from, and_parts}
use Rattle.js_core.specs.Whole.{largest}

numerals : IsNumeralModel (λ ds. all_ascii_digits ds ≡ true) (digits_value 10)
numerals = numerals_by_value _ tells_all_ascii_digits

small : (n : ℕ) → nat_le n largest ≡ true → n < 2 ^ 64
small n e = let l : n ≤ largest = grind (arith, nat_tests) in omega arith

digit_passes : (u : ℕ) → is_ascii_digit u ≡ true → is_digit u 10 ≡ true
digit_passes u e = grind (arith, nat_tests)

digits_pass : (us : List ℕ) → all_ascii_digits us ≡ true → list_all (λ u. is_digit u 10) us ≡ true
digits_pass [] e = refl
digits_pass (u ∷ us) e = and_from _ _ (digit_passes u (and_parts _ _ e).0) (digits_pass us (and_parts _ _ e).1)

pub decimal_has_digits : (n : ℕ) → nat_le n largest ≡ true → list_all (λ u. is_digit u 10) (decimal n) ≡ true
decimal_has_digits n e = digits_pass (decimal n) (digits_decimal numerals n (small n e))

pub decimal_writes : (n : ℕ) → nat_le n largest ≡ true → digits_value 10 (decimal n) ≡ n
decimal_writes n e = digits_value-decimal numerals n (small n e)

pub decimal_is_not_empty : (n : ℕ) → nat_le n largest ≡ true → 0 < length (decimal n)
decimal_is_not_empty n e = decimal_nonempty n (small n e)

pub zero_is : decimal 0 ≡ 48 ∷ []
zero_is = decimal_digit 0 (lit< tt)

pub first_is_not_zero : (n : ℕ) → 0 < n → nat_le n largest ≡ true → 48 < get_or (decimal n) 0 0
first_is_not_zero n some e = first_decimal n some (small n e)
