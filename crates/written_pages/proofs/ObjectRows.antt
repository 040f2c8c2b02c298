-- The constructor `Object`, what it has, and what its prototype has (section 15.2).
use Rattle.std.proofs.Common.{ℕ, suc, Bool, false, List}
use Rattle.std.specs.Fmt.{decimal}
use Rattle.std.specs.Prelude.{[], ◌∷◌, ◌++◌, Option, Some, None, Result, Ok, Err, codes, is_some, refl}
use Rattle.js_values.specs.declared.ids.ObjId.{ObjId}
use Rattle.js_values.specs.declared.throw.Throw.{Throw}
use Rattle.js_values.specs.declared.throw.Throw.TheVariants.{WrongArgument}
use Rattle.js_values.specs.declared.value.Value.{Value}
use Rattle.js_values.specs.declared.value.Value.TheVariants.{Undefined, Null, Bool as Truth, Num, Text, Object}
use Rattle.object_heap.proofs.Callers.{new_fit}
use Rattle.object_heap.specs.Heap.{new_object}
use Rattle.object_heap.specs.Object as heap
use Rattle.object_heap.specs.declared.object.Class.{Class}
use Rattle.object_heap.specs.declared.object.Class.TheVariants as class
use Rattle.object_heap.specs.declared.property.Change.{Change}
use Rattle.object_heap.specs.declared.property.Prop.{Prop}
use Rattle.page_meaning.specs.Act.{Act, Calls}
use Rattle.page_meaning.specs.Convert.{text_in}
use Rattle.page_meaning.specs.Lines.{class_name}
use Rattle.page_meaning.specs.ObjectRows.{Changes, argument, change_all, change_each, changes_in, create, define_as, define_each, define_given, define_properties, define_property, described, enumerable_names, get_descriptor, get_prototype, has_own, heap_object, is_prototype_of, is_unit_name, list_texts, lists_own, new_texts, new_with, object_from, on_object, one_change, own_enumerable_names, own_names, prevent, props_at, tag_of, tagged, telling, value_itself, value_of_prototype, with_given}
use Rattle.page_meaning.specs.Properties.{class_at, get_at, own_of_text}
use Rattle.page_meaning.specs.Store.{Store}
use Rattle.literal_values.specs.Objects.{LiteralChange, MaybeProp}
use Rattle.literal_values.specs.Stores.{LiteralStore}
use Rattle.literal_values.specs.Values.{AreBounded, AreTexts, IsBounded, IsText}
use Rattle.literal_values.proofs.Callers.{decimal_text, keys_in, object_literal, own_bounded, props_filtered, text_in_units, text_seen, value_at}
use Rattle.written_pages.proofs.Acts.{also_is, asking_any, asking_is, bind_is, done_is, give_is}
use Rattle.written_pages.proofs.Converting.{to_text_is}
use Rattle.written_pages.proofs.Descriptors.{ResultIs, change_in_is, define_in_is, new_descriptor_is}
use Rattle.written_pages.proofs.Made.{new_list_is, new_plain_is, plain_literal}
use Rattle.written_pages.proofs.Primitives.{make_is, prevent_at_is, raise_is, unless_is}
use Rattle.written_pages.proofs.Properties.{define_member_is}
use Rattle.written_pages.specs.Acts.{CallsAre, Writes}

-- ---- arguments

pub argument_is : (vs : List Value) (k : ℕ) → AreBounded vs → IsBounded (argument vs k)
argument_is vs k h = value_at vs k h

pub on_object_is : {f : ObjId → Act} (v : Value) → ((at : ObjId) → Writes (f at)) → Writes (on_object v f)
on_object_is (Object at) k = k at
on_object_is Undefined k = raise_is WrongArgument tt
on_object_is Null k = raise_is WrongArgument tt
on_object_is (Truth b) k = raise_is WrongArgument tt
on_object_is (Num n) k = raise_is WrongArgument tt
on_object_is (Text t) k = raise_is WrongArgument tt

pub telling_is : (f : heap.Object → Bool) (at : ObjId) → Writes (telling f at)
telling_is f at = asking_any (λ b. give_is (Truth b) tt)

-- ---- what the constructor makes and tells

new_plain_given : Writes (object_from Undefined)
new_plain_given = bind_is new_plain_is (λ k p. give_is (Object k) tt)

pub object_from_is : (v : Value) → Writes (object_from v)
object_from_is (Object at) = give_is (Object at) tt
object_from_is Undefined = new_plain_given
object_from_is Null = new_plain_given
object_from_is (Truth b) = raise_is WrongArgument tt
object_from_is (Num n) = raise_is WrongArgument tt
object_from_is (Text t) = raise_is WrongArgument tt

prototype_bounded : (o : Option ObjId) → IsBounded (value_of_prototype o)
prototype_bounded None = tt
prototype_bounded (Some p) = tt

pub get_prototype_is : (at : ObjId) → Writes (get_prototype at)
get_prototype_is at = asking_is IsBounded (λ s l. prototype_bounded (heap_object s at).proto) (λ v p. give_is v p)

described_is : (o : Option Prop) → MaybeProp o → Writes (described o)
described_is None h = give_is Undefined tt
described_is (Some p) h = new_descriptor_is p h

pub get_descriptor_is : {calls : Calls} → CallsAre calls → (v : Value) → IsBounded v → (at : ObjId) → Writes (get_descriptor calls v at)
get_descriptor_is c v h at =
    also_is (to_text_is c v h) (λ x p.
    asking_is MaybeProp (λ s l. own_bounded (props_at s at) (text_in x) (object_literal s at.0 l).props) (λ o q. described_is o q))

-- ---- names

list_texts_is : (a : ObjId) (k : ℕ) (xs : List (List ℕ)) → AreTexts xs → Writes (list_texts a k xs)
list_texts_is a k [] h = give_is (Object a) tt
list_texts_is a k (x ∷ xs) h = also_is (define_member_is a (decimal k) (Text x) (decimal_text k) h.0) (λ v p. list_texts_is a (suc k) xs h.1)

pub new_texts_is : (xs : List (List ℕ)) → AreTexts xs → Writes (new_texts xs)
new_texts_is xs h = bind_is new_list_is (λ a p. list_texts_is a 0 xs h)

pub own_names_is : (at : ObjId) → Writes (own_names at)
own_names_is at = asking_is AreTexts (λ s l. keys_in (props_at s at) (object_literal s at.0 l).props) (λ xs h. new_texts_is xs h)

enumerable_texts : (s : Store) (at : ObjId) → LiteralStore s → AreTexts (enumerable_names (props_at s at))
enumerable_texts s at l = keys_in _ (props_filtered (λ e. e.1.enumerable) (props_at s at) (object_literal s at.0 l).props)

pub own_enumerable_names_is : (at : ObjId) → Writes (own_enumerable_names at)
own_enumerable_names_is at = asking_is AreTexts (λ s l. enumerable_texts s at l) (λ xs h. new_texts_is xs h)

-- ---- definitions

define_as_is : (at : ObjId) (x : List ℕ) (r : Result Change Throw) → IsText x → ResultIs LiteralChange r → Writes (define_as at x r)
define_as_is at x (Err t) h k = raise_is t k
define_as_is at x (Ok change) h k = also_is (define_in_is at x change h k) (λ v p. give_is (Object at) tt)

pub define_property_is : {calls : Calls} → CallsAre calls → (v d : Value) → IsBounded v → (at : ObjId) → Writes (define_property calls v d at)
define_property_is c v d h at =
    also_is (to_text_is c v h) (λ x p.
    asking_is (ResultIs LiteralChange) (λ s l. change_in_is s d l) (λ r q. define_as_is at (text_in x) r (text_in_units x p) q))

abbrev pub LiteralChanges : Changes → Type 0
LiteralChanges [] = Unit {0}
LiteralChanges (c ∷ cs) = IsText c.0 × LiteralChange c.1 × LiteralChanges cs

one_change_is : (x : List ℕ) (r : Result Change Throw) (rs : Result Changes Throw) → IsText x → ResultIs LiteralChange r → ResultIs LiteralChanges rs
    → ResultIs LiteralChanges (one_change x r rs)
one_change_is x (Ok change) (Ok cs) h k g = (h, k, g)
one_change_is x (Ok change) (Err t) h k g = g
one_change_is x (Err t) cs h k g = k

changes_in_is : (s : Store) (from : ObjId) (xs : List (List ℕ)) → LiteralStore s → AreTexts xs → ResultIs LiteralChanges (changes_in s from xs)
changes_in_is s from [] l h = tt
changes_in_is s from (x ∷ xs) l h = one_change_is x _ _ h.0 (change_in_is s (get_at s from x) l) (changes_in_is s from xs l h.1)

define_each_is : (at : ObjId) (cs : Changes) → LiteralChanges cs → Writes (define_each at cs)
define_each_is at [] h = give_is (Object at) tt
define_each_is at (c ∷ cs) h = also_is (define_in_is at c.0 c.1 h.0 h.1) (λ v p. define_each_is at cs h.2)

define_given_is : (at : ObjId) (r : Result Changes Throw) → ResultIs LiteralChanges r → Writes (define_given at r)
define_given_is at (Err t) h = raise_is t h
define_given_is at (Ok cs) h = define_each_is at cs h

pub define_properties_is : (v : Value) (at : ObjId) → Writes (define_properties v at)
define_properties_is (Object from) at =
    asking_is (ResultIs LiteralChanges) (λ s l. changes_in_is s from _ l (enumerable_texts s from l)) (λ r h. define_given_is at r h)
define_properties_is (Text []) at = give_is (Object at) tt
define_properties_is (Text (u ∷ us)) at = raise_is WrongArgument tt
define_properties_is (Num n) at = give_is (Object at) tt
define_properties_is (Truth b) at = give_is (Object at) tt
define_properties_is Undefined at = raise_is WrongArgument tt
define_properties_is Null at = raise_is WrongArgument tt

with_given_is : (v : Value) (at : ObjId) → Writes (with_given v at)
with_given_is Undefined at = give_is (Object at) tt
with_given_is Null at = define_properties_is Null at
with_given_is (Truth b) at = define_properties_is (Truth b) at
with_given_is (Num n) at = define_properties_is (Num n) at
with_given_is (Text t) at = define_properties_is (Text t) at
with_given_is (Object from) at = define_properties_is (Object from) at

new_with_is : (proto : Option ObjId) (v : Value) → Writes (new_with proto v)
new_with_is proto v = bind_is (make_is (new_object class.Plain proto) (new_fit class.Plain proto) refl (plain_literal proto)) (λ at p. with_given_is v at)

pub create_is : (p v : Value) → Writes (create p v)
create_is (Object p) v = new_with_is (Some p) v
create_is Null v = new_with_is None v
create_is Undefined v = raise_is WrongArgument tt
create_is (Truth b) v = raise_is WrongArgument tt
create_is (Num n) v = raise_is WrongArgument tt
create_is (Text t) v = raise_is WrongArgument tt

-- ---- seals

change_each_is : (at : ObjId) (change : Change) (xs : List (List ℕ)) → LiteralChange change → AreTexts xs → Writes (change_each at change xs)
change_each_is at change [] h k = done_is
change_each_is at change (x ∷ xs) h k = also_is (define_in_is at x change k.0 h) (λ v p. change_each_is at change xs h k.1)

pub prevent_is : (at : ObjId) → Writes (prevent at)
prevent_is at = unless_is (prevent_at_is at) (give_is (Object at) tt)

pub change_all_is : (change : Change) → LiteralChange change → (at : ObjId) → Writes (change_all change at)
change_all_is change h at =
    also_is (asking_is AreTexts (λ s l. keys_in (props_at s at) (object_literal s at.0 l).props) (λ xs k. change_each_is at change xs h k))
    (λ v p. prevent_is at)

-- ---- what the prototype has

abbrev bracketed : List ℕ → List ℕ
bracketed t = codes "[object " ++ t ++ codes "]"

class_tagged : (d : Class) → IsText (bracketed (class_name d))
class_tagged class.Plain = text_seen (bracketed (codes "Object")) refl
class_tagged class.List = text_seen (bracketed (codes "Array")) refl
class_tagged (class.Page c env) = text_seen (bracketed (codes "Function")) refl
class_tagged (class.Native which) = text_seen (bracketed (codes "Function")) refl
class_tagged (class.Bound target this args) = text_seen (bracketed (codes "Function")) refl
class_tagged class.Fault = text_seen (bracketed (codes "Error")) refl
class_tagged class.Math = text_seen (bracketed (codes "Math")) refl
class_tagged class.Window = text_seen (bracketed (codes "Window")) refl
class_tagged (class.Node n) = text_seen (bracketed (codes "Node")) refl
class_tagged (class.Event parts) = text_seen (bracketed (codes "Event")) refl

value_tagged : (s : Store) (v : Value) → IsText (bracketed (tag_of s v))
value_tagged s Undefined = text_seen (bracketed (codes "Undefined")) refl
value_tagged s Null = text_seen (bracketed (codes "Null")) refl
value_tagged s (Truth b) = text_seen (bracketed (codes "Boolean")) refl
value_tagged s (Num n) = text_seen (bracketed (codes "Number")) refl
value_tagged s (Text t) = text_seen (bracketed (codes "String")) refl
value_tagged s (Object at) = class_tagged (class_at s at)

pub tagged_is : (v : Value) → Writes (tagged v)
tagged_is v = asking_is IsText (λ s l. value_tagged s v) (λ t h. give_is (Text t) h)

pub value_itself_is : (v : Value) → IsBounded v → Writes (value_itself v)
value_itself_is Undefined h = raise_is WrongArgument tt
value_itself_is Null h = raise_is WrongArgument tt
value_itself_is (Truth b) h = give_is (Truth b) h
value_itself_is (Num n) h = give_is (Num n) h
value_itself_is (Text t) h = give_is (Text t) h
value_itself_is (Object at) h = give_is (Object at) h

pub has_own_is : (v : Value) (x : List ℕ) → Writes (has_own v x)
has_own_is (Object at) x = asking_any (λ b. give_is (Truth b) tt)
has_own_is (Text t) x = give_is (Truth (is_some (own_of_text t x))) tt
has_own_is Undefined x = raise_is WrongArgument tt
has_own_is Null x = raise_is WrongArgument tt
has_own_is v x = give_is (Truth false) tt

pub is_prototype_of_is : (v w : Value) → Writes (is_prototype_of v w)
is_prototype_of_is (Object p) (Object at) = asking_any (λ b. give_is (Truth b) tt)
is_prototype_of_is Undefined (Object at) = raise_is WrongArgument tt
is_prototype_of_is Null (Object at) = raise_is WrongArgument tt
is_prototype_of_is v w = give_is (Truth false) tt

pub lists_own_is : (v : Value) (x : List ℕ) → Writes (lists_own v x)
lists_own_is (Object at) x = asking_any (λ b. give_is (Truth b) tt)
lists_own_is (Text t) x = give_is (Truth (is_unit_name t x)) tt
lists_own_is Undefined x = raise_is WrongArgument tt
lists_own_is Null x = raise_is WrongArgument tt
lists_own_is v x = give_is (Truth false) tt
