-- Equality of values (ECMA-262 5.1 sections 11.9.3 and 11.9.6).
use Rattle.std.specs.Prelude.{ℤ, pos, ◌==◌, Bool, true, false, if◌then◌else◌, Option, Some, None, Result, Ok, Err, bytes_eq}
use Rattle.std.specs.Ordering.{int_eq}
use Rattle.std.specs.Bool.{beq}
use Rattle.js_values.specs.declared.value.Value.{Value}
use Rattle.whole_ops.specs.Arithmetic.{Outcome}
use Rattle.whole_ops.specs.Numeral.{to_whole}
use Rattle.whole_ops.specs.declared.fault.LooseFault.{LooseFault}
use Rattle.whole_ops.specs.declared.fault.LooseFault.TheVariants.{NeedsPrimitive, Outside}
use Rattle.js_values.specs.declared.value.Value.TheVariants.{Undefined, Null, Bool as Truth, Num, Text, Object}

-- NaN is the same number as none
abbrev pub same_number : Option ℤ → Option ℤ → Bool
same_number None b = false
same_number (Some x) None = false
same_number (Some x) (Some y) = int_eq x y

-- `===`: values of different types are not the same
abbrev pub same_of : Value → Value → Bool
same_of Undefined Undefined = true
same_of Null Null = true
same_of (Truth p) (Truth q) = beq p q
same_of (Num x) (Num y) = same_number x y
same_of (Text t) (Text u) = bytes_eq t u
same_of (Object x) (Object y) = x.0 == y.0
same_of a b = false

-- a number and a text: the text is converted
abbrev pub against_number : Option ℤ → Outcome → Result Bool LooseFault
against_number x (Ok y) = Ok (same_number x y)
against_number x (Err e) = Err Outside

-- `==` where no side is a boolean: undefined and null are equal, and an object is compared with a number or a text once it is a primitive value
abbrev pub loose_between : Value → Value → Result Bool LooseFault
loose_between Undefined Undefined = Ok true
loose_between Undefined Null = Ok true
loose_between Null Undefined = Ok true
loose_between Null Null = Ok true
loose_between (Num x) (Num y) = Ok (same_number x y)
loose_between (Num x) (Text u) = against_number x (to_whole u)
loose_between (Num x) (Object at) = Err NeedsPrimitive
loose_between (Text t) (Num y) = against_number y (to_whole t)
loose_between (Text t) (Text u) = Ok (bytes_eq t u)
loose_between (Text t) (Object at) = Err NeedsPrimitive
loose_between (Object at) (Num y) = Err NeedsPrimitive
loose_between (Object at) (Text u) = Err NeedsPrimitive
loose_between (Object x) (Object y) = Ok (x.0 == y.0)
loose_between a b = Ok false

-- a boolean as its number: true is 1 and false 0
abbrev pub number_of_truth : Bool → Option ℤ
number_of_truth p = Some (pos (if p then 1 else 0))

-- the value with a number in place of a boolean
abbrev pub without_boolean : Value → Value
without_boolean (Truth p) = Num (number_of_truth p)
without_boolean v = v

-- `==`: a boolean is compared as its number
abbrev pub loose_of : Value → Value → Result Bool LooseFault
loose_of a b = loose_between (without_boolean a) (without_boolean b)
