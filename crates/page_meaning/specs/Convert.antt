-- Meaning: conversions of values (section 9). Each conversion of an object passes `to_primitive`.
use Rattle.std.specs.Prelude.{ℕ, ℤ, List, [], Option, Result, Ok, Err, unwrap_or}
use Rattle.js_core.specs.Whole.{nan}
use Rattle.js_values.specs.declared.throw.Throw.{Throw}
use Rattle.js_values.specs.declared.throw.Throw.TheVariants.{NoPrimitive, OutOfRange}
use Rattle.js_values.specs.declared.value.Value.{Value}
use Rattle.js_values.specs.declared.value.Value.TheVariants.{Num, Text, Object}
use Rattle.whole_ops.specs.declared.fault.LooseFault.{LooseFault}
use Rattle.whole_ops.specs.declared.fault.LooseFault.TheVariants.{NeedsPrimitive, Outside}
use Rattle.whole_ops.specs.Arithmetic.{Outcome}
use Rattle.whole_ops.specs.Conversions as whole
use Rattle.whole_ops.specs.Conversions.{text_of_value}
use Rattle.page_meaning.specs.Act.{Act, Calls, give, also}
use Rattle.page_meaning.specs.Errors.{raise, settle}

-- the text of a primitive value (9.8), and no text for an object
abbrev pub text_of : Value → List ℕ
text_of v = unwrap_or (text_of_value v) []

-- the number of a value that is one, else NaN
abbrev pub number_in : Value → Option ℤ
number_in (Num n) = n
number_in v = nan

-- the text of a value that is one
abbrev pub text_in : Value → List ℕ
text_in (Text t) = t
text_in v = []

-- a number, or the error of a result that is none
abbrev pub as_number : Outcome → Result Value Throw
as_number (Ok n) = Ok (Num n)
as_number (Err e) = Err OutOfRange

-- the value of a number, or the error of a value that has none
abbrev pub number_value : Result (Option ℤ) LooseFault → Result Value Throw
number_value (Ok n) = Ok (Num n)
number_value (Err NeedsPrimitive) = Err NoPrimitive
number_value (Err Outside) = Err OutOfRange

-- the number of a primitive value (9.3)
abbrev pub number_of : Value → Result Value Throw
number_of v = number_value (whole.number_of v)

-- which primitive value is wanted first of an object (8.12.8)
pub data Need : Type 0 where
  a_number : Need
  a_text : Need

-- ToPrimitive (9.1): an object has no primitive value yet
abbrev pub to_primitive : Calls → Need → Value → Act
to_primitive calls need (Object at) = raise NoPrimitive
to_primitive calls need v = give v

-- ToNumber (9.3)
abbrev pub to_number : Calls → Value → Act
to_number calls v = also (to_primitive calls a_number v) (λ p. settle (number_of p))

-- ToString (9.8)
abbrev pub to_text : Calls → Value → Act
to_text calls v = also (to_primitive calls a_text v) (λ p. give (Text (text_of p)))

-- operators, keys and `join` convert where they stand, by these; rows convert their arguments by the three before. As long as an object has
-- no primitive value they do the same

abbrev pub operand_primitive : Calls → Need → Value → Act
operand_primitive calls need v = to_primitive calls need v

abbrev pub operand_number : Calls → Value → Act
operand_number calls v = to_number calls v

abbrev pub operand_text : Calls → Value → Act
operand_text calls v = to_text calls v
