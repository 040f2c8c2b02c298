-- Meaning: what the built-in functions on texts and numbers do (sections 15.1.2, 15.5, 15.7 and 15.8).
use Rattle.std.specs.Prelude.{Bool, List, []}
use Rattle.js_values.specs.declared.built_in.BuiltIn.{BuiltIn}
use Rattle.js_values.specs.declared.built_in.BuiltIn.TheVariants as built_in
use Rattle.js_values.specs.declared.throw.Throw.TheVariants.{WrongArgument}
use Rattle.js_values.specs.declared.value.Value.{Value}
use Rattle.js_values.specs.declared.value.Value.TheVariants.{Num, Text}
use Rattle.page_meaning.specs.Act.{Act, Calls, give}
use Rattle.page_meaning.specs.Errors.{raise}
use Rattle.page_meaning.specs.MathRows as math
use Rattle.page_meaning.specs.NumberRows as number
use Rattle.page_meaning.specs.NumberRows.{on_number}
use Rattle.page_meaning.specs.ObjectRows.{argument}
use Rattle.page_meaning.specs.StringRows as text
use Rattle.page_meaning.specs.StringRows.{on_text}

-- whether it is constructed, which it is, `this` and the arguments
abbrev pub text_row : Calls → Bool → BuiltIn → Value → List Value → Act
text_row calls construct built_in.IsNaN this vs = number.is_not_a_number calls (argument vs 0)
text_row calls construct built_in.IsFinite this vs = number.is_finite calls (argument vs 0)
text_row calls construct built_in.ParseInt this vs = number.parse_int calls (argument vs 0) (argument vs 1)
text_row calls construct built_in.String this vs = text.text_from calls construct vs
text_row calls construct built_in.StringFromCharCode this vs = text.from_units calls vs []
text_row calls construct built_in.StringPrototypeToString this vs = on_text this (λ t. give (Text t))
text_row calls construct built_in.StringPrototypeValueOf this vs = on_text this (λ t. give (Text t))
text_row calls construct built_in.StringPrototypeCharAt this vs = on_text this (text.char_at calls (argument vs 0))
text_row calls construct built_in.StringPrototypeCharCodeAt this vs = on_text this (text.char_code_at calls (argument vs 0))
text_row calls construct built_in.StringPrototypeConcat this vs = on_text this (text.joined_to calls vs)
text_row calls construct built_in.StringPrototypeIndexOf this vs = on_text this (text.index_of calls (argument vs 0) (argument vs 1))
text_row calls construct built_in.StringPrototypeLastIndexOf this vs = on_text this (text.last_index_of calls (argument vs 0) (argument vs 1))
text_row calls construct built_in.StringPrototypeSlice this vs = on_text this (text.slice calls (argument vs 0) (argument vs 1))
text_row calls construct built_in.StringPrototypeSplit this vs = on_text this (text.split calls (argument vs 0) (argument vs 1))
text_row calls construct built_in.StringPrototypeSubstring this vs = on_text this (text.substring calls (argument vs 0) (argument vs 1))
text_row calls construct built_in.StringPrototypeToLowerCase this vs = on_text this text.lower_case
text_row calls construct built_in.StringPrototypeToUpperCase this vs = on_text this text.upper_case
text_row calls construct built_in.StringPrototypeTrim this vs = on_text this text.trim
text_row calls construct built_in.Number this vs = number.number_from calls construct vs
text_row calls construct built_in.NumberPrototypeToString this vs = on_number this (number.number_text calls (argument vs 0))
text_row calls construct built_in.NumberPrototypeValueOf this vs = on_number this (λ n. give (Num n))
text_row calls construct built_in.MathAbs this vs = math.absolute calls (argument vs 0)
text_row calls construct built_in.MathCeil this vs = math.rounded calls (argument vs 0)
text_row calls construct built_in.MathFloor this vs = math.rounded calls (argument vs 0)
text_row calls construct built_in.MathMax this vs = math.picked_of calls math.larger vs
text_row calls construct built_in.MathMin this vs = math.picked_of calls math.smaller vs
text_row calls construct built_in.MathPow this vs = math.power calls (argument vs 0) (argument vs 1)
text_row calls construct built_in.MathRound this vs = math.rounded calls (argument vs 0)
text_row calls construct which this vs = raise WrongArgument
