-- Properties of values.
use Rattle.std.proofs.Common.{ℕ, true, List}
use Rattle.std.specs.Prelude.{is_some}
use Rattle.js_values.specs.declared.ids.ObjId.{ObjId}
use Rattle.js_values.specs.declared.throw.Throw.TheVariants.{CannotDelete, NoProperties}
use Rattle.js_values.specs.declared.value.Value.{Value}
use Rattle.js_values.specs.declared.value.Value.TheVariants.{Undefined, Null, Bool as Truth, Num, Text, Object}
use Rattle.object_heap.specs.Define.{whole_property}
use Rattle.page_meaning.specs.Act.{Calls}
use Rattle.page_meaning.specs.Convert.{number_of, text_in}
use Rattle.page_meaning.specs.Properties.{define_member, delete_member, get_index, get_member, has_unit, key_of, put_in, stored, with_properties}
use Rattle.page_meaning.specs.Reading.{own_of_text, read_property}
use Rattle.literal_values.proofs.Callers.{number_of_literal, property_literal}
use Rattle.literal_values.specs.Values.{IsBounded, IsText, LiteralResult}
use Rattle.written_pages.proofs.Acts.{also_is, asking_any, asking_is, choose_is, give_is}
use Rattle.written_pages.proofs.Converting.{operand_text_is}
use Rattle.written_pages.proofs.Primitives.{define_at_is, delete_at_is, put_at_is, raise_is, settle_is, unless_is}
use Rattle.written_pages.specs.Acts.{CallsAre, Writes}

pub read_property_is : (base : Value) (x : List ℕ) → IsBounded base → Writes (read_property base x)
read_property_is base x h = asking_is LiteralResult (λ s l. property_literal s base x l h) (λ r p. settle_is r p)

pub with_properties_is : (v : Value) → IsBounded v → Writes (with_properties v)
with_properties_is Undefined h = raise_is NoProperties tt
with_properties_is Null h = raise_is NoProperties tt
with_properties_is (Truth b) h = give_is (Truth b) h
with_properties_is (Num n) h = give_is (Num n) h
with_properties_is (Text t) h = give_is (Text t) h
with_properties_is (Object at) h = give_is (Object at) h

pub get_member_is : (base : Value) (x : List ℕ) → IsBounded base → Writes (get_member base x)
get_member_is base x h = also_is (with_properties_is base h) (λ v p. read_property_is base x h)

pub key_of_is : {calls : Calls} → CallsAre calls → (base key : Value) → IsBounded base → IsBounded key → Writes (key_of calls base key)
key_of_is c base key h k = also_is (with_properties_is base h) (λ v p. operand_text_is c key k)

pub get_index_is : {calls : Calls} → CallsAre calls → (base key : Value) → IsBounded base → IsBounded key → Writes (get_index calls base key)
get_index_is c base key h k = also_is (key_of_is c base key h k) (λ x p. read_property_is base (text_in x) h)

pub stored_is : (at : ObjId) (x : List ℕ) (v : Value) → IsText x → IsBounded v → Writes (stored at x v)
stored_is at x v h k = unless_is (put_at_is at x v h k) (give_is v k)

pub put_in_is : (at : ObjId) (x : List ℕ) (v : Value) → IsText x → IsBounded v → Writes (put_in at x v)
put_in_is at x v h k =
    asking_any (λ b. choose_is b (also_is (settle_is (number_of v) (number_of_literal v k)) (λ w p. stored_is at x w h p)) (stored_is at x v h k))

has_unit_is : (t x : List ℕ) → Writes (has_unit t x)
has_unit_is t x = choose_is (is_some (own_of_text t x)) (raise_is CannotDelete tt) (give_is (Truth true) tt)

pub delete_member_is : (v : Value) (x : List ℕ) → Writes (delete_member v x)
delete_member_is Undefined x = give_is (Truth true) tt
delete_member_is Null x = give_is (Truth true) tt
delete_member_is (Truth b) x = give_is (Truth true) tt
delete_member_is (Num n) x = give_is (Truth true) tt
delete_member_is (Text t) x = has_unit_is t x
delete_member_is (Object at) x =
    asking_any (λ b. choose_is b (raise_is CannotDelete tt) (unless_is (delete_at_is at x) (give_is (Truth true) tt)))

pub define_member_is : (at : ObjId) (x : List ℕ) (v : Value) → IsText x → IsBounded v → Writes (define_member at x v)
define_member_is at x v h k = unless_is (define_at_is at x (whole_property v) h k) (give_is v k)
