-- Meaning: the constructor `Object`, what it has, and what its prototype has (section 15.2).
use Rattle.std.specs.Prelude.{refl, ℕ, suc, Bool, false, not, ◌&&◌, List, [], ◌∷◌, ◌++◌, Option, Some, None, Result, Ok, Err, is_some, filter, codes, slice_index_or}
use Rattle.std.specs.Fmt.{decimal}
use Rattle.std.specs.List.{list_all}
use Rattle.std.specs.Map.{keys_of}
use Rattle.js_values.specs.declared.ids.ObjId.{ObjId}
use Rattle.js_values.specs.declared.throw.Throw.{Throw}
use Rattle.js_values.specs.declared.throw.Throw.TheVariants.{WrongArgument}
use Rattle.js_values.specs.declared.value.Value.{Value}
use Rattle.js_values.specs.declared.value.Value.TheVariants.{Undefined, Null, Bool as Truth, Num, Text, Object}
use Rattle.object_heap.specs.declared.object.Class.TheVariants.{Plain}
use Rattle.object_heap.specs.declared.property.Change.{Change}
use Rattle.object_heap.specs.declared.property.Prop.{Prop}
use Rattle.object_heap.specs.Chain.{object_at}
use Rattle.object_heap.specs.Heap.{new_object}
use Rattle.object_heap.specs.Index.{index_of}
use Rattle.object_heap.specs.Object as heap
use Rattle.object_heap.specs.Property.{Props, own_property}
use Rattle.object_heap.proofs.Callers.{new_fit}
use Rattle.page_meaning.specs.Act.{Act, Calls, bind, give, done, also, asking}
use Rattle.page_meaning.specs.Convert.{text_in, to_text}
use Rattle.page_meaning.specs.Descriptors.{change_in, define_in, new_descriptor}
use Rattle.page_meaning.specs.Errors.{raise, unless}
use Rattle.page_meaning.specs.Expressions.{new_list, new_plain}
use Rattle.page_meaning.specs.Functions.{object_of}
use Rattle.page_meaning.specs.Lines.{class_name}
use Rattle.page_meaning.specs.Operators.{is_above}
use Rattle.page_meaning.specs.Primitives.{make, prevent_at}
use Rattle.page_meaning.specs.Properties.{class_at, define_member, get_at, own_of_text, unit_at}
use Rattle.page_meaning.specs.Store.{Store}

-- the kth argument, or undefined
abbrev pub argument : List Value → ℕ → Value
argument vs k = slice_index_or vs k Undefined

abbrev pub heap_object : Store → ObjId → heap.Object
heap_object s at = object_at s.heap.objects at.0

abbrev pub props_at : Store → ObjId → Props
props_at s at = (heap_object s at).props

-- an argument that must be an object
abbrev pub on_object : Value → (ObjId → Act) → Act
on_object (Object at) f = f at
on_object v f = raise WrongArgument

-- what the object tells, as a value
abbrev pub telling : (heap.Object → Bool) → ObjId → Act
telling f at = asking (λ s. f (heap_object s at)) (λ b. give (Truth b))

-- `Object(v)` and `new Object(v)` (15.2.1.1, 15.2.2.1)
abbrev pub object_from : Value → Act
object_from (Object at) = give (Object at)
object_from Undefined = bind new_plain object_of
object_from Null = bind new_plain object_of
object_from v = raise WrongArgument

abbrev pub value_of_prototype : Option ObjId → Value
value_of_prototype None = Null
value_of_prototype (Some p) = Object p

-- 15.2.3.2
abbrev pub get_prototype : ObjId → Act
get_prototype at = asking (λ s. value_of_prototype (heap_object s at).proto) give

abbrev pub described : Option Prop → Act
described None = give Undefined
described (Some p) = new_descriptor p

-- 15.2.3.3
abbrev pub get_descriptor : Calls → Value → ObjId → Act
get_descriptor calls v at = also (to_text calls v) (λ x. asking (λ s. own_property (props_at s at) (text_in x)) described)

-- a new array of texts
abbrev pub list_texts : ObjId → ℕ → List (List ℕ) → Act
list_texts a k [] = give (Object a)
list_texts a k (x ∷ xs) = also (define_member a (decimal k) (Text x)) (λ _. list_texts a (suc k) xs)

abbrev pub new_texts : List (List ℕ) → Act
new_texts xs = bind new_list (λ a. list_texts a 0 xs)

abbrev pub enumerable_names : Props → List (List ℕ)
enumerable_names props = keys_of (filter (λ e. e.1.enumerable) props)

-- 15.2.3.4 and 15.2.3.14: in the order of creation
abbrev pub own_names : ObjId → Act
own_names at = asking (λ s. keys_of (props_at s at)) new_texts

abbrev pub own_enumerable_names : ObjId → Act
own_enumerable_names at = asking (λ s. enumerable_names (props_at s at)) new_texts

abbrev pub define_as : ObjId → List ℕ → Result Change Throw → Act
define_as at x (Err t) = raise t
define_as at x (Ok change) = also (define_in at x change) (λ _. give (Object at))

-- 15.2.3.6
abbrev pub define_property : Calls → Value → Value → ObjId → Act
define_property calls v d at = also (to_text calls v) (λ x. asking (λ s. change_in s d) (define_as at (text_in x)))

-- names with descriptors, where all of them are some
abbrev pub Changes : Type 0
Changes = List (List ℕ × Change)

abbrev pub one_change : List ℕ → Result Change Throw → Result Changes Throw → Result Changes Throw
one_change x (Ok change) (Ok cs) = Ok ((x, change) ∷ cs)
one_change x (Ok change) (Err t) = Err t
one_change x (Err t) cs = Err t

abbrev pub changes_in : Store → ObjId → List (List ℕ) → Result Changes Throw
changes_in s from [] = Ok []
changes_in s from (x ∷ xs) = one_change x (change_in s (get_at s from x)) (changes_in s from xs)

abbrev pub all_changes : Store → ObjId → Result Changes Throw
all_changes s from = changes_in s from (enumerable_names (props_at s from))

abbrev pub define_each : ObjId → Changes → Act
define_each at [] = give (Object at)
define_each at (c ∷ cs) = also (define_in at c.0 c.1) (λ _. define_each at cs)

abbrev pub define_given : ObjId → Result Changes Throw → Act
define_given at (Err t) = raise t
define_given at (Ok cs) = define_each at cs

-- all descriptors are read before a property is defined (15.2.3.7)
abbrev pub define_properties : Value → ObjId → Act
define_properties (Object from) at = asking (λ s. all_changes s from) (define_given at)
define_properties (Text []) at = give (Object at)
define_properties (Num n) at = give (Object at)
define_properties (Truth b) at = give (Object at)
define_properties v at = raise WrongArgument

abbrev pub with_given : Value → ObjId → Act
with_given Undefined at = give (Object at)
with_given v at = define_properties v at

abbrev pub new_with : Option ObjId → Value → Act
new_with proto v = bind (make (new_object Plain proto) (new_fit Plain proto) refl) (with_given v)

-- 15.2.3.5
abbrev pub create : Value → Value → Act
create (Object p) v = new_with (Some p) v
create Null v = new_with None v
create p v = raise WrongArgument

-- what `seal` and `freeze` ask of a property
abbrev pub sealing : Change
sealing = record { value = None; writable = None; enumerable = None; configurable = Some false }

abbrev pub freezing : Change
freezing = record { value = None; writable = Some false; enumerable = None; configurable = Some false }

abbrev pub change_each : ObjId → Change → List (List ℕ) → Act
change_each at change [] = done
change_each at change (x ∷ xs) = also (define_in at x change) (λ _. change_each at change xs)

-- 15.2.3.10
abbrev pub prevent : ObjId → Act
prevent at = unless (prevent_at at) (give (Object at))

-- 15.2.3.8 and 15.2.3.9
abbrev pub change_all : Change → ObjId → Act
change_all change at = also (asking (λ s. keys_of (props_at s at)) (change_each at change)) (λ _. prevent at)

-- 15.2.3.11 and 15.2.3.12
abbrev pub is_sealed : heap.Object → Bool
is_sealed o = not o.extensible && list_all (λ e. not e.1.configurable) o.props

abbrev pub is_frozen : heap.Object → Bool
is_frozen o = not o.extensible && list_all (λ e. not e.1.configurable && not e.1.writable) o.props

-- what `Object.prototype.toString` calls a value (15.2.4.2)
abbrev pub tag_of : Store → Value → List ℕ
tag_of s Undefined = codes "Undefined"
tag_of s Null = codes "Null"
tag_of s (Truth b) = codes "Boolean"
tag_of s (Num n) = codes "Number"
tag_of s (Text t) = codes "String"
tag_of s (Object at) = class_name (class_at s at)

abbrev pub tagged : Value → Act
tagged v = asking (λ s. codes "[object " ++ tag_of s v ++ codes "]") (λ t. give (Text t))

-- `this` as itself, where it can have properties (15.2.4.4)
abbrev pub value_itself : Value → Act
value_itself Undefined = raise WrongArgument
value_itself Null = raise WrongArgument
value_itself v = give v

-- whether a value has the own property (15.2.4.5)
abbrev pub has_own : Value → List ℕ → Act
has_own (Object at) x = asking (λ s. is_some (own_property (props_at s at) x)) (λ b. give (Truth b))
has_own (Text t) x = give (Truth (is_some (own_of_text t x)))
has_own Undefined x = raise WrongArgument
has_own Null x = raise WrongArgument
has_own v x = give (Truth false)

-- 15.2.4.6
abbrev pub is_prototype_of : Value → Value → Act
is_prototype_of (Object p) (Object at) = asking (λ s. is_above s p at) (λ b. give (Truth b))
is_prototype_of Undefined (Object at) = raise WrongArgument
is_prototype_of Null (Object at) = raise WrongArgument
is_prototype_of v w = give (Truth false)

abbrev pub is_listed : Option Prop → Bool
is_listed None = false
is_listed (Some p) = p.enumerable

abbrev pub is_unit_name : List ℕ → List ℕ → Bool
is_unit_name t x = is_some (unit_at t (index_of x))

-- whether a value has the own property and lists it (15.2.4.7): a text lists its units, and not its length
abbrev pub lists_own : Value → List ℕ → Act
lists_own (Object at) x = asking (λ s. is_listed (own_property (props_at s at) x)) (λ b. give (Truth b))
lists_own (Text t) x = give (Truth (is_unit_name t x))
lists_own Undefined x = raise WrongArgument
lists_own Null x = raise WrongArgument
lists_own v x = give (Truth false)
