-- Meaning: the constructor `Number`, what its prototype has, and the functions of the global object on numbers (sections 15.7 and 15.1.2).
use Rattle.std.specs.Prelude.{ℕ, suc, ℤ, pos, negsuc, nat_le, Bool, true, false, ◌&&◌, List, [], ◌∷◌, Option, Some, None, is_none, is_some, Result, Ok, Err, codes, take_while, if◌then◌else◌}
use Rattle.std.specs.Char.{is_digit}
use Rattle.std.specs.Fmt.{digits}
use Rattle.std.specs.Ordering.{int_eq}
use Rattle.std.specs.Str.Parse.{digits_value}
use Rattle.js_core.specs.Whole.{nan}
use Rattle.js_values.specs.declared.throw.Throw.{Throw}
use Rattle.js_values.specs.declared.throw.Throw.TheVariants.{OutOfRange, WrongArgument}
use Rattle.js_values.specs.declared.value.Value.{Value}
use Rattle.js_values.specs.declared.value.Value.TheVariants.{Undefined, Bool as Truth, Num, Text}
use Rattle.whole_ops.specs.Arithmetic.{Outcome, whole_or_outside}
use Rattle.whole_ops.specs.Bits.{to_int32}
use Rattle.whole_ops.specs.Numeral.{begins_with_minus, behind_hex_prefix, with_sign, without_sign}
use Rattle.whole_ops.specs.WhiteSpace.{behind, is_str_white_space}
use Rattle.page_meaning.specs.Act.{Act, Calls, give, also, ◌>>=◌}
use Rattle.page_meaning.specs.Convert.{as_number, number_in, text_in, to_number, to_text}
use Rattle.page_meaning.specs.Errors.{raise, settle}

-- `this`, which must be a number (15.7.4)
abbrev pub on_number : Value → (Option ℤ → Act) → Act
on_number (Num n) f = f n
on_number v f = raise WrongArgument

-- `Number(..)` (15.7.1.1); there are no objects of numbers
abbrev pub number_from : Calls → Bool → List Value → Act
number_from calls true vs = raise WrongArgument
number_from calls false [] = give (Num (Some (pos 0)))
number_from calls false (v ∷ vs) = to_number calls v

-- 15.1.2.4 and 15.1.2.5: all numbers but NaN are finite
abbrev pub is_not_a_number : Calls → Value → Act
is_not_a_number calls v = also (to_number calls v) (λ n. give (Truth (is_none (number_in n))))

abbrev pub is_finite : Calls → Value → Act
is_finite calls v = also (to_number calls v) (λ n. give (Truth (is_some (number_in n))))

-- ---- texts of numbers (15.7.4.2)

abbrev pub radix_in_range : Option ℤ → Option ℕ
radix_in_range (Some (pos r)) = if nat_le 2 r && nat_le r 36 then Some r else None
radix_in_range n = None

-- the radix that an argument asks for, where it may be one
abbrev pub radix_of : Value → Option ℤ → Option ℕ
radix_of Undefined n = Some 10
radix_of v n = radix_in_range n

-- digits above 9 are small letters
abbrev pub text_in_radix : ℕ → Option ℤ → List ℕ
text_in_radix r None = codes "NaN"
text_in_radix r (Some (pos n)) = digits r false n
text_in_radix r (Some (negsuc n)) = 45 ∷ digits r false (suc n)

-- the radix is judged first, for NaN too
abbrev pub text_or_outside : Option ℤ → Option ℕ → Result Value Throw
text_or_outside n None = Err OutOfRange
text_or_outside n (Some r) = Ok (Text (text_in_radix r n))

abbrev pub number_text : Calls → Value → Option ℤ → Act
number_text calls v n = also (to_number calls v) (λ r. settle (text_or_outside n (radix_of v (number_in r))))

-- ---- `parseInt` (15.1.2.2)

-- the number of these digits, if there are some
abbrev pub number_of_digits : Bool → ℕ → List ℕ → Outcome
number_of_digits minus r [] = Ok nan
number_of_digits minus r (c ∷ cs) = whole_or_outside (with_sign minus (digits_value r (c ∷ cs)))

-- the digits with which the text begins (steps 11 to 15)
abbrev pub number_before : Bool → ℕ → List ℕ → Outcome
number_before minus r t = number_of_digits minus r (take_while (λ u. is_digit u r) t)

-- behind `0x` the digits are hexadecimal (step 10)
abbrev pub by_prefix : Bool → ℕ → List ℕ → Option (List ℕ) → Outcome
by_prefix minus r t None = number_before minus r t
by_prefix minus r t (Some hexadecimal) = number_before minus 16 hexadecimal

abbrev pub by_given_radix : Bool → List ℕ → Option ℕ → Outcome
by_given_radix minus t None = Ok nan
by_given_radix minus t (Some r) = number_before minus r t

-- radix 0 stands for 10, and `0x` goes before no other radix than 16 (steps 7 to 9)
abbrev pub by_radix : Bool → List ℕ → ℤ → Outcome
by_radix minus t r =
    if int_eq r (pos 0) then by_prefix minus 10 t (behind_hex_prefix t)
    else (if int_eq r (pos 16) then by_prefix minus 16 t (behind_hex_prefix t) else by_given_radix minus t (radix_in_range (Some r)))

abbrev pub behind_sign : List ℕ → ℤ → Outcome
behind_sign t r = by_radix (begins_with_minus t) (without_sign t) r

-- white space, a sign, and the digits (steps 2 to 6)
abbrev pub parsed : List ℕ → Option ℤ → Outcome
parsed t n = behind_sign (behind is_str_white_space t) (to_int32 n)

abbrev pub parse_int : Calls → Value → Value → Act
parse_int calls v w = do
  x ← to_text calls v
  r ← to_number calls w
  settle (as_number (parsed (text_in x) (number_in r)))
