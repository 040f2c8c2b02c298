-- What the functions of the prototype of texts do with a text.
use Rattle.std.specs.Prelude.{ℕ, List}
use Rattle.js_values.specs.declared.value.Value.{Value}
use Rattle.js_values.specs.declared.value.Value.TheVariants.{Text}
use Rattle.page_meaning.specs.Act.{Act, Calls, give}
use Rattle.page_meaning.specs.ObjectRows.{argument}
use Rattle.page_meaning.specs.StringRows as text
use Rattle.builtin_text.specs.declared.methods.Method.{Method}
use Rattle.builtin_text.specs.declared.methods.Method.TheVariants as method

abbrev pub method_of : Calls → Method → List Value → List ℕ → Act
method_of calls method.Itself vs = λ t. give (Text t)
method_of calls method.CharAt vs = text.char_at calls (argument vs 0)
method_of calls method.CharCodeAt vs = text.char_code_at calls (argument vs 0)
method_of calls method.Concat vs = text.joined_to calls vs
method_of calls method.IndexOf vs = text.index_of calls (argument vs 0) (argument vs 1)
method_of calls method.LastIndexOf vs = text.last_index_of calls (argument vs 0) (argument vs 1)
method_of calls method.Slice vs = text.slice calls (argument vs 0) (argument vs 1)
method_of calls method.Split vs = text.split calls (argument vs 0) (argument vs 1)
method_of calls method.Substring vs = text.substring calls (argument vs 0) (argument vs 1)
method_of calls method.LowerCase vs = text.lower_case
method_of calls method.UpperCase vs = text.upper_case
method_of calls method.Trim vs = text.trim
