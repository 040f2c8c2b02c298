-- Texts and numbers of bounded values, and what operators give as values.
use Rattle.std.proofs.Common.{◌≡◌, refl, ℕ, ℤ, pos, negsuc, suc, ◌<◌, ◌≤◌, ◌&&◌, Bool, true, false, List, [], ◌∷◌, ◌++◌, Option, Some, None, IfSome, Ok, Err, codes, nat_le, length, take_while, int_lt, option_map, unsigned_abs, if◌then◌else◌, arith}
use Rattle.std.specs.Char.{is_digit}
use Rattle.std.specs.Ordering.{int_eq}
use Rattle.std.specs.Str.Parse.{digits_value}
use Rattle.std.proofs.lemmas.Bool.{and_parts, leb-true}
use Rattle.js_core.specs.Text.{AllUnits}
use Rattle.js_core.specs.Whole.{largest}
use Rattle.js_values.specs.declared.throw.Throw.{Throw}
use Rattle.js_values.specs.declared.throw.Throw.TheVariants.{NotDefined, NotFunction, NoProperties, CannotSet, CannotDefine, CannotDelete, NoPrimitive, NotObject, WrongArgument, OutOfRange, TextTooLong, InvalidLength, TooDeep, Hierarchy, InvalidCharacter, NotFound, NotSupported, UnspecifiedEventType}
use Rattle.js_values.specs.declared.value.Value.{Value}
use Rattle.js_values.specs.declared.value.Value.TheVariants.{Undefined, Null, Bool as Truth, Num, Text, Object}
use Rattle.js_values.specs.Throw.{message_of, code_of}
use Rattle.whole_ops.specs.Arithmetic.{Outcome}
use Rattle.whole_ops.specs.Bits.{to_int32}
use Rattle.whole_ops.specs.Conversions as whole
use Rattle.whole_ops.specs.Numeral.{to_whole, with_sign, without_sign, begins_with_minus, behind_hex_prefix}
use Rattle.whole_ops.specs.WhiteSpace.{behind, is_str_white_space}
use Rattle.page_host.specs.HostNames.{text_limit, text_or_long}
use Rattle.page_meaning.specs.Convert.{as_number, number_in, number_of, number_value, text_in, text_of}
use Rattle.page_meaning.specs.Errors.{code_props, error_object}
use Rattle.page_meaning.specs.NumberRows.{by_given_radix, by_prefix, by_radix, number_of_digits, parsed, radix_in_range, radix_of, text_in_radix, text_or_outside}
use Rattle.page_meaning.specs.MathRows.{larger, smaller}
use Rattle.literal_values.proofs.Numbers.{to_whole_number, truth_number, whole_or_number}
use Rattle.literal_values.proofs.Units.{digits_text, joined_text, joined_units, minus_text, name_text, no_text, text_seen, whole_text}
use Rattle.literal_values.specs.Objects.{LiteralObject, LiteralProps}
use Rattle.literal_values.specs.Values.{IsBounded, IsNumber, IsNumberOutcome, IsText, LiteralResult, LiteralThrow}

-- ---- texts

pub text_of_units : (v : Value) → IsBounded v → IsText (text_of v)
text_of_units Undefined h = text_seen (codes "undefined") refl
text_of_units Null h = text_seen (codes "null") refl
text_of_units (Truth true) h = text_seen (codes "true") refl
text_of_units (Truth false) h = text_seen (codes "false") refl
text_of_units (Num n) h = whole_text n
text_of_units (Text t) h = h
text_of_units (Object at) h = no_text

pub text_in_units : (v : Value) → IsBounded v → IsText (text_in v)
text_in_units Undefined h = no_text
text_in_units Null h = no_text
text_in_units (Truth b) h = no_text
text_in_units (Num n) h = no_text
text_in_units (Text t) h = h
text_in_units (Object at) h = no_text

-- a text that was joined is too long, or one of the language
pub text_or_long_literal : (t : List ℕ) → AllUnits t → LiteralResult (text_or_long t)
unfolding text_limit
text_or_long_literal t h = by_case (nat_le (length t) text_limit) refl
  where
    by_case : (b : Bool) → nat_le (length t) text_limit ≡ b → LiteralResult (if b then Ok (Text t) else Err TextTooLong)
    by_case true e = (h, omega (arith, leb-true (length t) text_limit e))
    by_case false e = tt

pub joined_literal : (t u : List ℕ) → IsText t → IsText u → LiteralResult (text_or_long (t ++ u))
joined_literal t u h k = text_or_long_literal (t ++ u) (joined_units t u h.0 k.0)

-- ---- numbers

pub number_in_number : (v : Value) → IsBounded v → IsNumber (number_in v)
number_in_number Undefined h = tt
number_in_number Null h = tt
number_in_number (Truth b) h = tt
number_in_number (Num n) h = h
number_in_number (Text t) h = tt
number_in_number (Object at) h = tt

pub number_of_literal : (v : Value) → IsBounded v → LiteralResult (number_of v)
number_of_literal Undefined h = tt
number_of_literal Null h = omega arith
number_of_literal (Truth b) h = truth_number b
number_of_literal (Num n) h = h
number_of_literal (Text t) h = by_case (to_whole t) (to_whole_number t)
  where
    by_case : (r : Outcome) → IsNumberOutcome r → LiteralResult (number_value (whole.of_text r))
    by_case (Ok n) i = i
    by_case (Err e) i = tt
number_of_literal (Object at) h = tt

pub as_number_literal : (r : Outcome) → IsNumberOutcome r → LiteralResult (as_number r)
as_number_literal (Ok n) h = h
as_number_literal (Err e) h = tt

pub larger_number : (a b : Option ℤ) → IsNumber a → IsNumber b → IsNumber (larger a b)
larger_number None b h k = tt
larger_number (Some x) None h k = tt
larger_number (Some x) (Some y) h k = by_case (int_lt x y)
  where
    by_case : (c : Bool) → IsNumber (if c then Some y else Some x)
    by_case true = k
    by_case false = h

pub smaller_number : (a b : Option ℤ) → IsNumber a → IsNumber b → IsNumber (smaller a b)
smaller_number None b h k = tt
smaller_number (Some x) None h k = tt
smaller_number (Some x) (Some y) h k = by_case (int_lt y x)
  where
    by_case : (c : Bool) → IsNumber (if c then Some y else Some x)
    by_case true = k
    by_case false = h

pub absolute_number : (n : Option ℤ) → IsNumber n → IsNumber (option_map (λ z. pos (unsigned_abs z)) n)
absolute_number None h = tt
absolute_number (Some (pos k)) h = h
absolute_number (Some (negsuc k)) h = h

-- ---- `parseInt`

if_number : (b : Bool) (r s : Outcome) → IsNumberOutcome r → IsNumberOutcome s → IsNumberOutcome (if b then r else s)
if_number true r s h k = h
if_number false r s h k = k

digits_number : (minus : Bool) (r : ℕ) (t : List ℕ) → IsNumberOutcome (number_of_digits minus r t)
digits_number minus r [] = tt
digits_number minus r (c ∷ cs) = whole_or_number (with_sign minus (digits_value r (c ∷ cs)))

prefix_number : (minus : Bool) (r : ℕ) (t : List ℕ) (o : Option (List ℕ)) → IsNumberOutcome (by_prefix minus r t o)
prefix_number minus r t None = digits_number minus r (take_while (λ u. is_digit u r) t)
prefix_number minus r t (Some hexadecimal) = digits_number minus 16 (take_while (λ u. is_digit u 16) hexadecimal)

given_number : (minus : Bool) (t : List ℕ) (o : Option ℕ) → IsNumberOutcome (by_given_radix minus t o)
given_number minus t None = tt
given_number minus t (Some r) = digits_number minus r (take_while (λ u. is_digit u r) t)

radix_number : (minus : Bool) (t : List ℕ) (r : ℤ) → IsNumberOutcome (by_radix minus t r)
radix_number minus t r =
    if_number (int_eq r (pos 0)) _ _ (prefix_number minus 10 t (behind_hex_prefix t))
    (if_number (int_eq r (pos 16)) _ _ (prefix_number minus 16 t (behind_hex_prefix t)) (given_number minus t (radix_in_range (Some r))))

pub parsed_number : (t : List ℕ) (n : Option ℤ) → IsNumberOutcome (parsed t n)
parsed_number t n = radix_number (begins_with_minus (behind is_str_white_space t)) (without_sign (behind is_str_white_space t)) (to_int32 n)

-- ---- texts of numbers

radix_units : (r : ℕ) (n : Option ℤ) → 0 < r → r ≤ 36 → IsText (text_in_radix r n)
radix_units r None low high = text_seen (codes "NaN") refl
radix_units r (Some (pos n)) low high = digits_text r n low high
radix_units r (Some (negsuc n)) low high = minus_text r (suc n) low high

in_range_text : (n : Option ℤ) (m : Option ℤ) → LiteralResult (text_or_outside n (radix_in_range m))
in_range_text n None = tt
in_range_text n (Some (negsuc k)) = tt
in_range_text n (Some (pos r)) = by_case (nat_le 2 r && nat_le r 36) refl
  where
    by_case : (b : Bool) → (nat_le 2 r && nat_le r 36) ≡ b → LiteralResult (text_or_outside n (if b then Some r else None))
    by_case true e =
        let parts = and_parts (nat_le 2 r) (nat_le r 36) e in
        let low = leb-true 2 r parts.0 in
        radix_units r n (omega (arith, low)) (leb-true r 36 parts.1)
    by_case false e = tt

pub radix_text : (n : Option ℤ) (v : Value) (m : Option ℤ) → LiteralResult (text_or_outside n (radix_of v m))
radix_text n Undefined m = radix_units 10 n (omega arith) (omega arith)
radix_text n Null m = in_range_text n m
radix_text n (Truth b) m = in_range_text n m
radix_text n (Num k) m = in_range_text n m
radix_text n (Text t) m = in_range_text n m
radix_text n (Object at) m = in_range_text n m

-- ---- errors

pub message_units : (t : Throw) → LiteralThrow t → IsText (message_of t)
message_units (NotDefined name) h = joined_text name (codes " is not defined") (name_text name h) (text_seen (codes " is not defined") refl) (omega (arith, h.1))
message_units NotFunction h = text_seen (codes "not a function") refl
message_units NoProperties h = text_seen (codes "no properties") refl
message_units CannotSet h = text_seen (codes "cannot set") refl
message_units CannotDefine h = text_seen (codes "cannot define") refl
message_units CannotDelete h = text_seen (codes "cannot delete") refl
message_units NoPrimitive h = text_seen (codes "no primitive value") refl
message_units NotObject h = text_seen (codes "not an object") refl
message_units WrongArgument h = text_seen (codes "wrong argument") refl
message_units OutOfRange h = text_seen (codes "number out of range") refl
message_units TextTooLong h = text_seen (codes "text too long") refl
message_units InvalidLength h = text_seen (codes "invalid length") refl
message_units TooDeep h = text_seen (codes "too deep") refl
message_units Hierarchy h = text_seen (codes "HIERARCHY_REQUEST_ERR") refl
message_units InvalidCharacter h = text_seen (codes "INVALID_CHARACTER_ERR") refl
message_units NotFound h = text_seen (codes "NOT_FOUND_ERR") refl
message_units NotSupported h = text_seen (codes "NOT_SUPPORTED_ERR") refl
message_units UnspecifiedEventType h = text_seen (codes "UNSPECIFIED_EVENT_TYPE_ERR") refl

code_small : (t : Throw) → IfSome (code_of t) (λ n. n ≤ largest)
code_small (NotDefined name) = tt
code_small NotFunction = tt
code_small NoProperties = tt
code_small CannotSet = tt
code_small CannotDefine = tt
code_small CannotDelete = tt
code_small NoPrimitive = tt
code_small NotObject = tt
code_small WrongArgument = tt
code_small OutOfRange = tt
code_small TextTooLong = tt
code_small InvalidLength = tt
code_small TooDeep = tt
code_small Hierarchy = omega arith
code_small InvalidCharacter = omega arith
code_small NotFound = omega arith
code_small NotSupported = omega arith
code_small UnspecifiedEventType = omega arith

code_literal : (o : Option ℕ) → IfSome o (λ n. n ≤ largest) → LiteralProps (code_props o)
code_literal None h = tt
code_literal (Some n) h = (text_seen (codes "code") refl, h, tt)

pub error_literal : (t : Throw) → LiteralThrow t → LiteralObject (error_object t)
error_literal t h = record { class = tt; props = (text_seen (codes "message") refl, message_units t h, code_literal (code_of t) (code_small t)) }
