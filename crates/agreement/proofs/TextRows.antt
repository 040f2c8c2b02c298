-- The built-in functions on texts and numbers, on related values (sections 15.1.2, 15.5, 15.7 and 15.8).
use Rattle.std.proofs.Common.{Bool, List, []}
use Rattle.js_values.specs.declared.built_in.BuiltIn.{BuiltIn}
use Rattle.js_values.specs.declared.built_in.BuiltIn.TheVariants as built_in
use Rattle.js_values.specs.declared.throw.Throw.TheVariants.{WrongArgument}
use Rattle.js_values.specs.declared.value.Value.{Value}
use Rattle.js_values.specs.declared.value.Value.TheVariants as value
use Rattle.page_meaning.specs.Act.{Calls, give}
use Rattle.page_meaning.specs.MathRows as math
use Rattle.page_meaning.specs.NumberRows as number
use Rattle.page_meaning.specs.ObjectRows.{argument}
use Rattle.page_meaning.specs.StringRows as text
use Rattle.page_meaning.specs.TextRows.{text_row}
use Rattle.heap_relations.specs.Naming.{named, World}
use Rattle.heap_relations.specs.Related.{Each, ValueRel, num, text as same_text}
use Rattle.agreement.specs.Acts.{Agrees}
use Rattle.agreement.proofs.MathRows.{absolute_rel, picked_of_rel, power_rel, rounded_rel}
use Rattle.agreement.proofs.NumberRows.{is_finite_rel, is_not_a_number_rel, number_from_rel, number_text_rel, on_number_rel, parse_int_rel}
use Rattle.agreement.proofs.ObjectRows.{argument_rel}
use Rattle.agreement.proofs.StringRows.{char_at_rel, char_code_at_rel, from_units_rel, index_of_rel, joined_to_rel, last_index_of_rel, lower_case_rel, on_text_rel, slice_rel, split_rel, substring_rel, text_from_rel, trim_rel, upper_case_rel}
use Rattle.agreement.proofs.Values.{give_rel, raise_rel}

pub text_row_rel : {V : World} {this that : Value} {vs ws : List Value} (c d : Calls) (construct : Bool) (which : BuiltIn) → ValueRel (named V) this that → Each (ValueRel (named V)) vs ws
    → Agrees V (text_row c construct which this vs) (text_row d construct which that ws)
text_row_rel c d construct built_in.IsNaN h hs = is_not_a_number_rel c d (argument_rel hs 0)
text_row_rel c d construct built_in.IsFinite h hs = is_finite_rel c d (argument_rel hs 0)
text_row_rel c d construct built_in.ParseInt h hs = parse_int_rel c d (argument_rel hs 0) (argument_rel hs 1)
text_row_rel c d construct built_in.String h hs = text_from_rel c d construct hs
text_row_rel c d construct built_in.StringFromCharCode h hs = from_units_rel c d hs []
text_row_rel c d construct built_in.StringPrototypeToString h hs = on_text_rel h (λ t. give (value.Text t)) (λ t. give (value.Text t)) (λ t. give_rel same_text)
text_row_rel c d construct built_in.StringPrototypeValueOf h hs = on_text_rel h (λ t. give (value.Text t)) (λ t. give (value.Text t)) (λ t. give_rel same_text)
text_row_rel {vs = vs} {ws = ws} c d construct built_in.StringPrototypeCharAt h hs =
    on_text_rel h (text.char_at c (argument vs 0)) (text.char_at d (argument ws 0)) (λ t. char_at_rel c d (argument_rel hs 0) t)
text_row_rel {vs = vs} {ws = ws} c d construct built_in.StringPrototypeCharCodeAt h hs =
    on_text_rel h (text.char_code_at c (argument vs 0)) (text.char_code_at d (argument ws 0)) (λ t. char_code_at_rel c d (argument_rel hs 0) t)
text_row_rel {vs = vs} {ws = ws} c d construct built_in.StringPrototypeConcat h hs =
    on_text_rel h (text.joined_to c vs) (text.joined_to d ws) (λ t. joined_to_rel c d hs t)
text_row_rel {vs = vs} {ws = ws} c d construct built_in.StringPrototypeIndexOf h hs =
    on_text_rel h (text.index_of c (argument vs 0) (argument vs 1)) (text.index_of d (argument ws 0) (argument ws 1)) (λ t. index_of_rel c d (argument_rel hs 0) (argument_rel hs 1) t)
text_row_rel {vs = vs} {ws = ws} c d construct built_in.StringPrototypeLastIndexOf h hs =
    on_text_rel h (text.last_index_of c (argument vs 0) (argument vs 1)) (text.last_index_of d (argument ws 0) (argument ws 1)) (λ t. last_index_of_rel c d (argument_rel hs 0) (argument_rel hs 1) t)
text_row_rel {vs = vs} {ws = ws} c d construct built_in.StringPrototypeSlice h hs =
    on_text_rel h (text.slice c (argument vs 0) (argument vs 1)) (text.slice d (argument ws 0) (argument ws 1)) (λ t. slice_rel c d (argument_rel hs 0) (argument_rel hs 1) t)
text_row_rel {vs = vs} {ws = ws} c d construct built_in.StringPrototypeSplit h hs =
    on_text_rel h (text.split c (argument vs 0) (argument vs 1)) (text.split d (argument ws 0) (argument ws 1)) (λ t. split_rel c d (argument_rel hs 0) (argument_rel hs 1) t)
text_row_rel {vs = vs} {ws = ws} c d construct built_in.StringPrototypeSubstring h hs =
    on_text_rel h (text.substring c (argument vs 0) (argument vs 1)) (text.substring d (argument ws 0) (argument ws 1)) (λ t. substring_rel c d (argument_rel hs 0) (argument_rel hs 1) t)
text_row_rel c d construct built_in.StringPrototypeToLowerCase h hs = on_text_rel h text.lower_case text.lower_case (λ t. lower_case_rel t)
text_row_rel c d construct built_in.StringPrototypeToUpperCase h hs = on_text_rel h text.upper_case text.upper_case (λ t. upper_case_rel t)
text_row_rel c d construct built_in.StringPrototypeTrim h hs = on_text_rel h text.trim text.trim (λ t. trim_rel t)
text_row_rel c d construct built_in.Number h hs = number_from_rel c d construct hs
text_row_rel {vs = vs} {ws = ws} c d construct built_in.NumberPrototypeToString h hs =
    on_number_rel h (number.number_text c (argument vs 0)) (number.number_text d (argument ws 0)) (λ n. number_text_rel c d (argument_rel hs 0) n)
text_row_rel c d construct built_in.NumberPrototypeValueOf h hs = on_number_rel h (λ n. give (value.Num n)) (λ n. give (value.Num n)) (λ n. give_rel num)
text_row_rel c d construct built_in.MathAbs h hs = absolute_rel c d (argument_rel hs 0)
text_row_rel c d construct built_in.MathCeil h hs = rounded_rel c d (argument_rel hs 0)
text_row_rel c d construct built_in.MathFloor h hs = rounded_rel c d (argument_rel hs 0)
text_row_rel c d construct built_in.MathMax h hs = picked_of_rel c d math.larger hs
text_row_rel c d construct built_in.MathMin h hs = picked_of_rel c d math.smaller hs
text_row_rel c d construct built_in.MathPow h hs = power_rel c d (argument_rel hs 0) (argument_rel hs 1)
text_row_rel c d construct built_in.MathRound h hs = rounded_rel c d (argument_rel hs 0)
text_row_rel c d construct which h hs = raise_rel WrongArgument
