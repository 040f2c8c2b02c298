-- Conversions of values that need no object's methods (ECMA-262 5.1 sections 9.2, 9.3 and 9.8).
use Rattle.std.specs.Prelude.{ℕ, ℤ, pos, Bool, true, false, not, List, [], ◌∷◌, codes, Option, Some, None, Result, Ok, Err}
use Rattle.js_core.specs.Whole.{nan}
use Rattle.js_values.specs.declared.value.Value.{Value}
use Rattle.js_values.specs.declared.value.Value.TheVariants.{Undefined, Null, Bool as Truth, Num, Text, Object}
use Rattle.whole_ops.specs.declared.fault.LooseFault.{LooseFault}
use Rattle.whole_ops.specs.declared.fault.LooseFault.TheVariants.{NeedsPrimitive, Outside}
use Rattle.whole_ops.specs.Arithmetic.{Outcome, is_zero}
use Rattle.whole_ops.specs.Equality.{number_of_truth}
use Rattle.whole_ops.specs.Numeral.{text_of_whole, to_whole}

-- the number that a text writes, as a value's
abbrev pub of_text : Outcome → Result (Option ℤ) LooseFault
of_text (Ok n) = Ok n
of_text (Err e) = Err Outside

-- ToNumber (9.3); an object is made a primitive value first
abbrev pub number_of : Value → Result (Option ℤ) LooseFault
number_of Undefined = Ok nan
number_of Null = Ok (Some (pos 0))
number_of (Truth p) = Ok (number_of_truth p)
number_of (Num n) = Ok n
number_of (Text t) = of_text (to_whole t)
number_of (Object at) = Err NeedsPrimitive

abbrev pub word_of_truth : Bool → List ℕ
word_of_truth true = codes "true"
word_of_truth false = codes "false"

-- ToString (9.8), and none for an object, which is made a primitive value first
abbrev pub text_of_value : Value → Option (List ℕ)
text_of_value Undefined = Some (codes "undefined")
text_of_value Null = Some (codes "null")
text_of_value (Truth p) = Some (word_of_truth p)
text_of_value (Num n) = Some (text_of_whole n)
text_of_value (Text t) = Some t
text_of_value (Object at) = None

-- a number but 0 and NaN
abbrev pub is_true_number : Option ℤ → Bool
is_true_number None = false
is_true_number (Some z) = not (is_zero z)

-- a text but the empty one
abbrev pub is_true_text : List ℕ → Bool
is_true_text [] = false
is_true_text (c ∷ cs) = true

-- ToBoolean (9.2)
abbrev pub is_true : Value → Bool
is_true Undefined = false
is_true Null = false
is_true (Truth p) = p
is_true (Num n) = is_true_number n
is_true (Text t) = is_true_text t
is_true (Object at) = true
