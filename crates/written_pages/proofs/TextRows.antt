-- What the built-in functions on texts and numbers do (sections 15.1.2, 15.5, 15.7 and 15.8).
use Rattle.std.proofs.Common.{Bool, List}
use Rattle.std.specs.Prelude.{[]}
use Rattle.js_values.specs.declared.built_in.BuiltIn.{BuiltIn}
use Rattle.js_values.specs.declared.built_in.BuiltIn.TheVariants as built_in
use Rattle.js_values.specs.declared.throw.Throw.TheVariants.{WrongArgument}
use Rattle.js_values.specs.declared.value.Value.{Value}
use Rattle.js_values.specs.declared.value.Value.TheVariants.{Num, Text}
use Rattle.page_meaning.specs.Act.{Calls}
use Rattle.page_meaning.specs.ObjectRows.{argument}
use Rattle.page_meaning.specs.TextRows.{text_row}
use Rattle.literal_values.specs.Values.{AreBounded, IsBounded}
use Rattle.literal_values.proofs.Callers.{no_units}
use Rattle.written_pages.proofs.Acts.{give_is}
use Rattle.written_pages.proofs.MathRows.{absolute_is, largest_is, power_is, rounded_is, smallest_is}
use Rattle.written_pages.proofs.NumberRows.{is_finite_is, is_not_a_number_is, number_from_is, number_text_is, on_number_is, parse_int_is}
use Rattle.written_pages.proofs.ObjectRows.{argument_is}
use Rattle.written_pages.proofs.Primitives.{raise_is}
use Rattle.written_pages.proofs.StringRows.{char_at_is, char_code_at_is, from_units_is, index_of_is, joined_to_is, last_index_of_is, lower_case_is, on_text_is, slice_is, split_is, substring_is, text_from_is, trim_is, upper_case_is}
use Rattle.written_pages.specs.Acts.{CallsAre, Writes}

pub text_row_is : {calls : Calls} → CallsAre calls → (construct : Bool) (which : BuiltIn) (this : Value) (vs : List Value) → IsBounded this → AreBounded vs
    → Writes (text_row calls construct which this vs)
text_row_is c b built_in.IsNaN this vs h k = is_not_a_number_is c (argument vs 0) (argument_is vs 0 k)
text_row_is c b built_in.IsFinite this vs h k = is_finite_is c (argument vs 0) (argument_is vs 0 k)
text_row_is c b built_in.ParseInt this vs h k = parse_int_is c (argument vs 0) (argument vs 1) (argument_is vs 0 k) (argument_is vs 1 k)
text_row_is c b built_in.String this vs h k = text_from_is c b vs k
text_row_is c b built_in.StringFromCharCode this vs h k = from_units_is c vs [] k no_units
text_row_is c b built_in.StringPrototypeToString this vs h k = on_text_is this h (λ t i. give_is (Text t) i)
text_row_is c b built_in.StringPrototypeValueOf this vs h k = on_text_is this h (λ t i. give_is (Text t) i)
text_row_is c b built_in.StringPrototypeCharAt this vs h k = on_text_is this h (λ t i. char_at_is c (argument vs 0) t (argument_is vs 0 k) i)
text_row_is c b built_in.StringPrototypeCharCodeAt this vs h k = on_text_is this h (λ t i. char_code_at_is c (argument vs 0) t (argument_is vs 0 k) i)
text_row_is c b built_in.StringPrototypeConcat this vs h k = on_text_is this h (λ t i. joined_to_is c vs t k i)
text_row_is c b built_in.StringPrototypeIndexOf this vs h k =
    on_text_is this h (λ t i. index_of_is c (argument vs 0) (argument vs 1) t (argument_is vs 0 k) (argument_is vs 1 k) i)
text_row_is c b built_in.StringPrototypeLastIndexOf this vs h k =
    on_text_is this h (λ t i. last_index_of_is c (argument vs 0) (argument vs 1) t (argument_is vs 0 k) (argument_is vs 1 k) i)
text_row_is c b built_in.StringPrototypeSlice this vs h k =
    on_text_is this h (λ t i. slice_is c (argument vs 0) (argument vs 1) t (argument_is vs 0 k) (argument_is vs 1 k) i)
text_row_is c b built_in.StringPrototypeSplit this vs h k =
    on_text_is this h (λ t i. split_is c (argument vs 0) (argument vs 1) t (argument_is vs 0 k) (argument_is vs 1 k) i)
text_row_is c b built_in.StringPrototypeSubstring this vs h k =
    on_text_is this h (λ t i. substring_is c (argument vs 0) (argument vs 1) t (argument_is vs 0 k) (argument_is vs 1 k) i)
text_row_is c b built_in.StringPrototypeToLowerCase this vs h k = on_text_is this h lower_case_is
text_row_is c b built_in.StringPrototypeToUpperCase this vs h k = on_text_is this h upper_case_is
text_row_is c b built_in.StringPrototypeTrim this vs h k = on_text_is this h trim_is
text_row_is c b built_in.Number this vs h k = number_from_is c b vs k
text_row_is c b built_in.NumberPrototypeToString this vs h k = on_number_is this h (λ n i. number_text_is c (argument vs 0) n (argument_is vs 0 k))
text_row_is c b built_in.NumberPrototypeValueOf this vs h k = on_number_is this h (λ n i. give_is (Num n) i)
text_row_is c b built_in.MathAbs this vs h k = absolute_is c (argument vs 0) (argument_is vs 0 k)
text_row_is c b built_in.MathCeil this vs h k = rounded_is c (argument vs 0) (argument_is vs 0 k)
text_row_is c b built_in.MathFloor this vs h k = rounded_is c (argument vs 0) (argument_is vs 0 k)
text_row_is c b built_in.MathMax this vs h k = largest_is c vs k
text_row_is c b built_in.MathMin this vs h k = smallest_is c vs k
text_row_is c b built_in.MathPow this vs h k = power_is c (argument vs 0) (argument vs 1) (argument_is vs 0 k) (argument_is vs 1 k)
text_row_is c b built_in.MathRound this vs h k = rounded_is c (argument vs 0) (argument_is vs 0 k)
text_row_is c b which this vs h k = raise_is WrongArgument tt
