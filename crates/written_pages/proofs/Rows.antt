-- What built-in functions do on objects and values (sections 15.2 to 15.6 and 15.11).
use Rattle.std.proofs.Common.{Bool, List}
use Rattle.js_values.specs.declared.built_in.BuiltIn.{BuiltIn}
use Rattle.js_values.specs.declared.built_in.BuiltIn.TheVariants as built_in
use Rattle.js_values.specs.declared.line.LineKind.TheVariants.{Alert, Log}
use Rattle.js_values.specs.declared.throw.ErrorKind.TheVariants as kind
use Rattle.js_values.specs.declared.throw.Throw.TheVariants.{WrongArgument}
use Rattle.js_values.specs.declared.value.Value.{Value}
use Rattle.page_meaning.specs.Act.{Calls}
use Rattle.page_meaning.specs.Convert.{text_in}
use Rattle.page_meaning.specs.Lines.{log_text, log_texts}
use Rattle.page_meaning.specs.ObjectRows.{argument, freezing, is_frozen, is_sealed, sealing}
use Rattle.page_meaning.specs.Rows.{object_row}
use Rattle.literal_values.specs.Values.{AreBounded, IsBounded}
use Rattle.written_pages.proofs.Acts.{also_is, bind_is, done_is}
use Rattle.written_pages.proofs.Converting.{to_text_is}
use Rattle.written_pages.proofs.ObjectRows.{argument_is, change_all_is, create_is, define_properties_is, define_property_is, get_descriptor_is, get_prototype_is, has_own_is, is_prototype_of_is, lists_own_is, object_from_is, on_object_is, own_enumerable_names_is, own_names_is, prevent_is, tagged_is, telling_is, value_itself_is}
use Rattle.written_pages.proofs.Primitives.{put_line_is, raise_is}
use Rattle.written_pages.proofs.ValueRows.{error_from_is, is_array_is, list_from_is, truth_from_is, truth_itself_is, truth_text_is}
use Rattle.written_pages.specs.Acts.{CallsAre, Writes}

pub object_row_is : {calls : Calls} → CallsAre calls → (construct : Bool) (which : BuiltIn) (this : Value) (vs : List Value) → IsBounded this → AreBounded vs
    → Writes (object_row calls construct which this vs)
object_row_is c b built_in.Alert this vs h k = bind_is (put_line_is Alert (λ s. log_text s (argument vs 0))) (λ u p. done_is)
object_row_is c b built_in.ConsoleLog this vs h k = bind_is (put_line_is Log (log_texts vs)) (λ u p. done_is)
object_row_is c b built_in.Object this vs h k = object_from_is (argument vs 0)
object_row_is c b built_in.ObjectGetPrototypeOf this vs h k = on_object_is (argument vs 0) get_prototype_is
object_row_is c b built_in.ObjectGetOwnPropertyDescriptor this vs h k = on_object_is (argument vs 0) (λ at. get_descriptor_is c (argument vs 1) (argument_is vs 1 k) at)
object_row_is c b built_in.ObjectGetOwnPropertyNames this vs h k = on_object_is (argument vs 0) own_names_is
object_row_is c b built_in.ObjectCreate this vs h k = create_is (argument vs 0) (argument vs 1)
object_row_is c b built_in.ObjectDefineProperty this vs h k =
    on_object_is (argument vs 0) (λ at. define_property_is c (argument vs 1) (argument vs 2) (argument_is vs 1 k) at)
object_row_is c b built_in.ObjectDefineProperties this vs h k = on_object_is (argument vs 0) (λ at. define_properties_is (argument vs 1) at)
object_row_is c b built_in.ObjectSeal this vs h k = on_object_is (argument vs 0) (λ at. change_all_is sealing tt at)
object_row_is c b built_in.ObjectFreeze this vs h k = on_object_is (argument vs 0) (λ at. change_all_is freezing tt at)
object_row_is c b built_in.ObjectPreventExtensions this vs h k = on_object_is (argument vs 0) prevent_is
object_row_is c b built_in.ObjectIsSealed this vs h k = on_object_is (argument vs 0) (λ at. telling_is is_sealed at)
object_row_is c b built_in.ObjectIsFrozen this vs h k = on_object_is (argument vs 0) (λ at. telling_is is_frozen at)
object_row_is c b built_in.ObjectIsExtensible this vs h k = on_object_is (argument vs 0) (λ at. telling_is (λ o. o.extensible) at)
object_row_is c b built_in.ObjectKeys this vs h k = on_object_is (argument vs 0) own_enumerable_names_is
object_row_is c b built_in.ObjectPrototypeToString this vs h k = tagged_is this
object_row_is c b built_in.ObjectPrototypeValueOf this vs h k = value_itself_is this h
object_row_is c b built_in.ObjectPrototypeHasOwnProperty this vs h k = also_is (to_text_is c (argument vs 0) (argument_is vs 0 k)) (λ x p. has_own_is this (text_in x))
object_row_is c b built_in.ObjectPrototypeIsPrototypeOf this vs h k = is_prototype_of_is this (argument vs 0)
object_row_is c b built_in.ObjectPrototypePropertyIsEnumerable this vs h k =
    also_is (to_text_is c (argument vs 0) (argument_is vs 0 k)) (λ x p. lists_own_is this (text_in x))
object_row_is c b built_in.FunctionPrototype this vs h k = done_is
object_row_is c b built_in.Array this vs h k = list_from_is vs k
object_row_is c b built_in.ArrayIsArray this vs h k = is_array_is (argument vs 0)
object_row_is c b built_in.Boolean this vs h k = truth_from_is b (argument vs 0)
object_row_is c b built_in.BooleanPrototypeToString this vs h k = truth_text_is this
object_row_is c b built_in.BooleanPrototypeValueOf this vs h k = truth_itself_is this
object_row_is c b built_in.Error this vs h k = error_from_is c kind.Plain (argument vs 0) (argument_is vs 0 k)
object_row_is c b built_in.TypeError this vs h k = error_from_is c kind.Type (argument vs 0) (argument_is vs 0 k)
object_row_is c b built_in.RangeError this vs h k = error_from_is c kind.Range (argument vs 0) (argument_is vs 0 k)
object_row_is c b built_in.ReferenceError this vs h k = error_from_is c kind.Reference (argument vs 0) (argument_is vs 0 k)
object_row_is c b which this vs h k = raise_is WrongArgument tt
