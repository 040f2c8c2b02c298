-- Operators as values, so that one function does what several of them share.
use Rattle.std.specs.Prelude.{ℤ, Bool, true, false, not, Option, Result, Ok}
use Rattle.js_values.specs.declared.throw.Throw.{Throw}
use Rattle.js_values.specs.declared.value.Value.{Value}
use Rattle.js_values.specs.declared.value.Value.TheVariants.{Undefined, Bool as Truth, Num, Text}
use Rattle.whole_ops.specs.Arithmetic.{whole_add, whole_sub, whole_mul, whole_div, whole_rem}
use Rattle.whole_ops.specs.Bits.{whole_bits}
use Rattle.whole_ops.specs.Equality.{loose_of}
use Rattle.whole_ops.specs.Order.{whole_less}
use Rattle.page_meaning.specs.Act.{Act, give}
use Rattle.page_meaning.specs.Convert.{as_number}
use Rattle.page_meaning.specs.Operators.{less_of, of_loose, says, sum_of, yes_or_no}
use Rattle.page_state.specs.declared.numbers.NumberOp.{NumberOp}
use Rattle.page_state.specs.declared.numbers.NumberOp.TheVariants.{Mul, Div, Rem, Add, Sub, Bits, Less as NumberLess}
use Rattle.page_state.specs.declared.numbers.Sense.{Sense}
use Rattle.page_state.specs.declared.numbers.Sense.TheVariants.{Plain, Negated}
use Rattle.page_state.specs.declared.primitives.PairOp.{PairOp}
use Rattle.page_state.specs.declared.primitives.PairOp.TheVariants.{Sum, Less, Greater, Equal}

-- what an operator makes of a truth value
abbrev pub sense_of : Sense → Bool → Bool
sense_of Plain = yes_or_no
sense_of Negated = not

-- an operator at two numbers
abbrev pub numeric : NumberOp → Option ℤ → Option ℤ → Result Value Throw
numeric Mul = λ a b. as_number (whole_mul a b)
numeric Div = λ a b. as_number (whole_div a b)
numeric Rem = λ a b. as_number (whole_rem a b)
numeric Add = λ a b. as_number (whole_add a b)
numeric Sub = λ a b. as_number (whole_sub a b)
numeric (Bits op) = λ a b. Ok (Num (whole_bits op a b))
numeric (NumberLess sense) = λ a b. Ok (Truth (says (sense_of sense) (whole_less a b)))

-- an operator at two primitive values
abbrev pub paired : PairOp → Value → Value → Act
paired Sum = sum_of
paired (Less sense) = less_of (sense_of sense)
paired (Greater sense) = λ p q. less_of (sense_of sense) q p
paired (Equal sense) = λ p q. of_loose (sense_of sense) (give Undefined) (loose_of p q)

abbrev pub is_text : Value → Bool
is_text (Text t) = true
is_text v = false
