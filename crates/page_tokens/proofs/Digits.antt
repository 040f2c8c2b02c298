-- Numbers in digits.
use Rattle.std.proofs.Common.{◌≡◌, ◌∙◌, ℕ, ◌+◌, ◌-◌, ◌*◌, ◌<◌, ◌≤◌, true, false, List, [], ◌∷◌, take, drop, length, get_or, refl, ap, sym, arith, Some}
use Rattle.std.specs.Char.{digit_value, is_digit}
use Rattle.std.specs.Char.Escape.{encode_utf16}
use Rattle.std.specs.List.{prefix_len}
use Rattle.std.proofs.lemmas.Int.Digits.{digits_value_more}
use Rattle.std.specs.Str.Parse.{digits_value}
use Rattle.std.proofs.Math.Nat.{mul-le-mul_left}
use Rattle.std.proofs.lemmas.Bool.Decides.{nat_tests}
use Rattle.std.proofs.lemmas.Str.Parse.{digits_value-take-le}
use Rattle.page_tokens.specs.Characters.{behind, begins_with, run_of}
use Rattle.page_tokens.specs.References.{has_reference, is_semicolon, number_of, numbered}

pub product_below : (value radix : ℕ) → value ≤ 1114111 → radix ≤ 16 → value * radix ≤ 17825776
product_below value radix v r = omega (arith, mul-le-mul_left value r)

too_large : (n : ℕ) → 1114111 < n → has_reference n ≡ false
too_large n l = grind (arith, nat_tests)

pub both_too_large : (radix value : ℕ) (ds : List ℕ) (i : ℕ) → 1 ≤ radix → value ≡ digits_value radix (take i ds) → 1114111 < value → has_reference value ≡ has_reference (digits_value radix ds)
both_too_large radix value ds i some e l =
    let le = digits_value-take-le radix ds i some in
    too_large value l ∙ sym (too_large (digits_value radix ds) (omega arith))

pub no_reference : (value other : ℕ) → 1114111 < value → has_reference value ≡ true → value ≡ other
no_reference value other l h = absurd (let no = too_large value l in cc)

all_taken : (us : List ℕ) → take (length us) us ≡ us
all_taken [] = refl
all_taken (u ∷ us) = ap (λ v. u ∷ v) (all_taken us)

all_of_rest : (us : List ℕ) → take (length us - 1) (drop 1 us) ≡ drop 1 us
all_of_rest [] = refl
all_of_rest (u ∷ us) = let n : length (u ∷ us) - 1 ≡ length us = omega arith in rw n (all_taken us)

one_character : (radix : ℕ) (digits back : List ℕ) (character : ℕ) → 0 < length digits → begins_with is_semicolon back ≡ true → has_reference (digits_value radix digits) ≡ true → character ≡ digits_value radix digits → numbered radix digits back ≡ Some (encode_utf16 character, drop 1 back)
one_character radix [] back character some ends has e = absurd (omega arith)
one_character radix (d ∷ ds) back character some ends has e = rw (ends, has, e) refl

pub number_stands : (radix n value character : ℕ) (text digits back : List ℕ) → n ≡ prefix_len (λ u. is_digit u radix) text → digits ≡ take n text → back ≡ drop n text → 0 < length digits → begins_with is_semicolon back ≡ true → has_reference value ≡ has_reference (digits_value radix digits) → (has_reference value ≡ true → value ≡ digits_value radix digits) → has_reference value ≡ true → character ≡ value → number_of radix text ≡ Some (encode_utf16 character, take (length back - 1) (drop 1 back))
number_stands radix n value character text digits back l d b some ends known same has e =
    let front : digits ≡ run_of (λ u. is_digit u radix) text = d ∙ ap (λ k. take k text) l in
    let rest : back ≡ behind (λ u. is_digit u radix) text = b ∙ ap (λ k. drop k text) l in
    let parts : number_of radix text ≡ numbered radix digits back = ap (λ x. numbered radix x (behind (λ u. is_digit u radix) text)) (sym front) ∙ ap (numbered radix digits) (sym rest) in
    parts ∙ one_character radix digits back character some ends (sym known ∙ has) (e ∙ same has) ∙ ap (λ x. Some (encode_utf16 character, x)) (sym (all_of_rest back))

pub one_more : (radix value : ℕ) (ds : List ℕ) (i : ℕ) → value ≡ digits_value radix (take i ds) → i < length ds → value * radix + digit_value (get_or ds i 0) ≡ digits_value radix (take (i + 1) ds)
one_more radix value ds i e l = ap (λ v. v * radix + digit_value (get_or ds i 0)) e ∙ sym (digits_value_more radix ds i l)
