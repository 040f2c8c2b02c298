-- The constructors of arrays, truth values and errors, and what a truth value's prototype has (sections 15.4, 15.6 and 15.11).
use Rattle.std.proofs.Common.{◌≡◌, ℕ, suc, ℤ, pos, negsuc, ◌≤◌, Bool, true, false, IfSome, List, nat_lt, if◌then◌else◌, arith}
use Rattle.std.specs.Fmt.{decimal}
use Rattle.std.specs.Prelude.{[], ◌∷◌, Option, Some, None, codes, refl}
use Rattle.std.proofs.lemmas.Bool.{ltb-true}
use Rattle.js_core.specs.Whole.{largest}
use Rattle.js_values.specs.declared.ids.ObjId.{ObjId}
use Rattle.js_values.specs.declared.throw.ErrorKind.{ErrorKind}
use Rattle.js_values.specs.declared.throw.Throw.TheVariants.{InvalidLength, WrongArgument}
use Rattle.js_values.specs.declared.value.Value.{Value}
use Rattle.js_values.specs.declared.value.Value.TheVariants.{Undefined, Null, Bool as Truth, Num, Text, Object}
use Rattle.object_heap.specs.Define.{length_name, number, valid_length}
use Rattle.page_meaning.specs.Act.{Act, Calls, also, bind}
use Rattle.page_meaning.specs.Convert.{text_in, text_of, to_text}
use Rattle.page_meaning.specs.Expressions.{new_list}
use Rattle.page_meaning.specs.Functions.{object_of}
use Rattle.page_meaning.specs.Primitives.{make}
use Rattle.page_meaning.specs.ValueRows.{error_from, error_saying, is_array, list_from, list_of_length, list_values, saying_fit, silent_error, silent_fit, truth_from, truth_itself, truth_text}
use Rattle.whole_ops.specs.Conversions.{is_true}
use Rattle.literal_values.specs.Objects.{LiteralObject}
use Rattle.literal_values.specs.Values.{AreBounded, IsBounded, IsText}
use Rattle.literal_values.proofs.Callers.{decimal_text, text_in_units, text_of_units, text_seen}
use Rattle.written_pages.proofs.Acts.{also_is, asking_any, bind_is, choose_is, give_is}
use Rattle.written_pages.proofs.Converting.{to_text_is}
use Rattle.written_pages.proofs.Made.{new_list_is}
use Rattle.written_pages.proofs.Primitives.{make_is, raise_is}
use Rattle.written_pages.proofs.Properties.{define_member_is, put_in_is}
use Rattle.written_pages.specs.Acts.{CallsAre, Writes}

-- ---- arrays

list_values_is : (a : ObjId) (k : ℕ) (vs : List Value) → AreBounded vs → Writes (list_values a k vs)
list_values_is a k [] h = give_is (Object a) tt
list_values_is a k (v ∷ vs) h = also_is (define_member_is a (decimal k) v (decimal_text k) h.0) (λ w p. list_values_is a (suc k) vs h.1)

valid_short : (n : Option ℤ) → IfSome (valid_length (Num n)) (λ k. k ≤ largest)
valid_short None = tt
valid_short (Some (negsuc k)) = tt
valid_short (Some (pos k)) = by_case (nat_lt k 4294967296) refl
  where
    by_case : (b : Bool) → nat_lt k 4294967296 ≡ b → IfSome (if b then Some k else None) (λ m. m ≤ largest)
    by_case true e = omega (arith, ltb-true k 4294967296 e)
    by_case false e = tt

of_length_is : (o : Option ℕ) → IfSome o (λ k. k ≤ largest) → Writes (list_of_length o)
of_length_is None h = raise_is InvalidLength tt
of_length_is (Some n) h =
    bind_is new_list_is (λ a p. also_is (put_in_is a length_name (number n) (text_seen length_name refl) h) (λ v q. give_is (Object a) tt))

new_values_is : (vs : List Value) → AreBounded vs → Writes (bind new_list (λ a. list_values a 0 vs))
new_values_is vs h = bind_is new_list_is (λ a p. list_values_is a 0 vs h)

pub list_from_is : (vs : List Value) → AreBounded vs → Writes (list_from vs)
list_from_is [] h = new_values_is [] h
list_from_is (Num n ∷ []) h = of_length_is (valid_length (Num n)) (valid_short n)
list_from_is (v ∷ vs) h = new_values_is (v ∷ vs) h

pub is_array_is : (v : Value) → Writes (is_array v)
is_array_is (Object at) = asking_any (λ b. give_is (Truth b) tt)
is_array_is v = give_is (Truth false) tt

-- ---- truth values

pub truth_from_is : (construct : Bool) (v : Value) → Writes (truth_from construct v)
truth_from_is construct v = choose_is construct (raise_is WrongArgument tt) (give_is (Truth (is_true v)) tt)

pub truth_text_is : (v : Value) → Writes (truth_text v)
truth_text_is (Truth b) = give_is (Text (text_of (Truth b))) (text_of_units (Truth b) tt)
truth_text_is v = raise_is WrongArgument tt

pub truth_itself_is : (v : Value) → Writes (truth_itself v)
truth_itself_is (Truth b) = give_is (Truth b) tt
truth_itself_is v = raise_is WrongArgument tt

-- ---- errors

silent_literal : (k : ErrorKind) → LiteralObject (silent_error k)
silent_literal k = record { class = tt; props = tt }

saying_literal : (k : ErrorKind) (t : List ℕ) → IsText t → LiteralObject (error_saying k t)
saying_literal k t h = record { class = tt; props = (text_seen (codes "message") refl, h, tt) }

abbrev said : Calls → ErrorKind → Value → Act
said calls k v = also (to_text calls v) (λ t. bind (make (error_saying k (text_in t)) (saying_fit k (text_in t)) refl) object_of)

said_is : {calls : Calls} → CallsAre calls → (k : ErrorKind) (v : Value) → IsBounded v → Writes (said calls k v)
said_is c k v h =
    also_is (to_text_is c v h) (λ t p.
    bind_is (make_is (error_saying k (text_in t)) (saying_fit k (text_in t)) refl (saying_literal k (text_in t) (text_in_units t p))) (λ at q. give_is (Object at) tt))

pub error_from_is : {calls : Calls} → CallsAre calls → (k : ErrorKind) (v : Value) → IsBounded v → Writes (error_from calls k v)
error_from_is c k Undefined h = bind_is (make_is (silent_error k) (silent_fit k) refl (silent_literal k)) (λ at p. give_is (Object at) tt)
error_from_is c k Null h = said_is c k Null h
error_from_is c k (Truth b) h = said_is c k (Truth b) h
error_from_is c k (Num n) h = said_is c k (Num n) h
error_from_is c k (Text t) h = said_is c k (Text t) h
error_from_is c k (Object at) h = said_is c k (Object at) h
