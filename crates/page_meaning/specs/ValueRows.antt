-- Meaning: the constructors of arrays, truth values and errors, and what a truth value's prototype has (sections 15.4, 15.6 and 15.11).
use Rattle.std.specs.Prelude.{refl, ℕ, suc, Bool, false, List, [], ◌∷◌, Option, Some, None, codes}
use Rattle.std.specs.Fmt.{decimal}
use Rattle.js_values.specs.declared.ids.ObjId.{ObjId}
use Rattle.js_values.specs.declared.throw.ErrorKind.{ErrorKind}
use Rattle.js_values.specs.declared.throw.Throw.TheVariants.{InvalidLength, WrongArgument}
use Rattle.js_values.specs.declared.value.Value.{Value}
use Rattle.js_values.specs.declared.value.Value.TheVariants.{Undefined, Bool as Truth, Num, Text, Object}
use Rattle.object_heap.specs.declared.object.Class.TheVariants.{Fault}
use Rattle.object_heap.specs.Define.{length_name, number, valid_length}
use Rattle.object_heap.specs.Heap.{IsFit}
use Rattle.object_heap.specs.Object as heap
use Rattle.object_heap.specs.Object.{is_list, whole_object}
use Rattle.object_heap.specs.Property.{hidden}
use Rattle.object_heap.proofs.Callers.{no_names, one_name, ordinary_fit}
use Rattle.whole_ops.specs.Conversions.{is_true}
use Rattle.page_meaning.specs.Act.{Act, Calls, bind, give, also, asking, choose}
use Rattle.page_meaning.specs.Convert.{text_in, text_of, to_text}
use Rattle.page_meaning.specs.Errors.{raise}
use Rattle.page_meaning.specs.Expressions.{new_list}
use Rattle.page_meaning.specs.Functions.{object_of}
use Rattle.page_meaning.specs.Places.{error_prototype}
use Rattle.page_meaning.specs.Primitives.{make}
use Rattle.page_meaning.specs.Properties.{class_at, define_member, put_in}

-- an array of these values (15.4.2.1)
abbrev pub list_values : ObjId → ℕ → List Value → Act
list_values a k [] = give (Object a)
list_values a k (v ∷ vs) = also (define_member a (decimal k) v) (λ _. list_values a (suc k) vs)

-- an array of this length without elements (15.4.2.2)
abbrev pub list_of_length : Option ℕ → Act
list_of_length None = raise InvalidLength
list_of_length (Some n) = bind new_list (λ a. also (put_in a length_name (number n)) (λ _. give (Object a)))

-- `Array(..)` and `new Array(..)`: a single number is a length
abbrev pub list_from : List Value → Act
list_from (Num n ∷ []) = list_of_length (valid_length (Num n))
list_from vs = bind new_list (λ a. list_values a 0 vs)

-- 15.4.3.2
abbrev pub is_array : Value → Act
is_array (Object at) = asking (λ s. is_list (class_at s at)) (λ b. give (Truth b))
is_array v = give (Truth false)

-- `Boolean(v)` (15.6.1.1); there are no objects of truth values
abbrev pub truth_from : Bool → Value → Act
truth_from construct v = choose construct (raise WrongArgument) (give (Truth (is_true v)))

-- 15.6.4.2 and 15.6.4.3
abbrev pub truth_text : Value → Act
truth_text (Truth b) = give (Text (text_of (Truth b)))
truth_text v = raise WrongArgument

abbrev pub truth_itself : Value → Act
truth_itself (Truth b) = give (Truth b)
truth_itself v = raise WrongArgument

-- a new error (15.11.1, 15.11.2)
abbrev pub silent_error : ErrorKind → heap.Object
silent_error k = whole_object Fault (Some (error_prototype k)) []

pub silent_fit : (k : ErrorKind) → IsFit (silent_error k)
silent_fit k = ordinary_fit Fault (Some (error_prototype k)) [] refl no_names

abbrev pub error_saying : ErrorKind → List ℕ → heap.Object
error_saying k t = whole_object Fault (Some (error_prototype k)) ((codes "message", hidden (Text t)) ∷ [])

pub saying_fit : (k : ErrorKind) (t : List ℕ) → IsFit (error_saying k t)
saying_fit k t = ordinary_fit Fault (Some (error_prototype k)) ((codes "message", hidden (Text t)) ∷ []) refl (one_name (codes "message") (hidden (Text t)))

-- with an own message, where one is given and is not undefined
abbrev pub error_from : Calls → ErrorKind → Value → Act
error_from calls k Undefined = bind (make (silent_error k) (silent_fit k) refl) object_of
error_from calls k v = also (to_text calls v) (λ t. bind (make (error_saying k (text_in t)) (saying_fit k (text_in t)) refl) object_of)
