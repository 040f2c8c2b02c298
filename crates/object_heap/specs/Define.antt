-- How a property of an object is defined (ECMA-262 5.1 sections 8.12.9 and 15.4.5.1).
use Rattle.std.specs.Prelude.{ℕ, ◌+◌, pos, Bool, true, false, List, [], ◌∷◌, ◌++◌, Option, Some, None, ◌&&◌, ◌||◌, not, nat_le, nat_lt, nat_eq, max, filter, codes, bytes_eq, is_some, if◌then◌else◌}
use Rattle.global_names.specs.Names.{names_global}
use Rattle.js_values.specs.declared.throw.Throw.{Throw}
use Rattle.js_values.specs.declared.throw.Throw.TheVariants.{CannotDefine, CannotDelete, CannotSet, InvalidLength}
use Rattle.js_values.specs.declared.value.Value.{Value}
use Rattle.js_values.specs.declared.value.Value.TheVariants.{Num}
use Rattle.object_heap.specs.Object.{is_list, is_window, not_extensible, Object, with_props}
use Rattle.object_heap.specs.declared.property.Change.{Change}
use Rattle.object_heap.specs.declared.property.Prop.{Prop}
use Rattle.object_heap.specs.Attempt.{Attempt, done, throws}
use Rattle.object_heap.specs.Index.{index_of}
use Rattle.object_heap.specs.Property.{Props, own_property, with_property, without_property, created, updated, may_update}

-- 8.12.9, where the object has this property of the name: a new property is the last, another keeps its place. t is
-- thrown where it rejects. Where each attribute asked for is there already, as in steps 5 and 6, nothing changes.
abbrev pub defined_over : Throw → Object → List ℕ → Change → Option Prop → Attempt Object
defined_over t o name change None =
    if o.extensible then done (with_props o (o.props ++ (name, created change) ∷ [])) else throws o t
defined_over t o name change (Some p) =
    if may_update p change then done (with_props o (with_property o.props name (updated p change))) else throws o t

-- 8.12.9
abbrev pub define_ordinary : Throw → Object → List ℕ → Change → Attempt Object
define_ordinary t o name change = defined_over t o name change (own_property o.props name)

-- the name of an array's length
abbrev pub length_name : List ℕ
length_name = codes "length"

-- a number that an array's length may have
abbrev pub number : ℕ → Value
number n = Num (Some (pos n))

-- the number from 0 up, or 0 for any other value
abbrev pub number_in : Value → ℕ
number_in (Num (Some (pos n))) = n
number_in v = 0

abbrev pub length_in : Option Prop → ℕ
length_in None = 0
length_in (Some p) = number_in p.value

abbrev pub is_writable : Option Prop → Bool
is_writable None = false
is_writable (Some p) = p.writable

-- an array's length
abbrev pub array_length : Object → ℕ
array_length o = length_in (own_property o.props length_name)

abbrev pub has_writable_length : Object → Bool
has_writable_length o = is_writable (own_property o.props length_name)

-- the length that the value is: a number from 0 to 2^32 - 1 (15.4.5.1 steps 3.c and 3.d)
abbrev pub valid_length : Value → Option ℕ
valid_length (Num (Some (pos n))) = if nat_lt n 4294967296 then Some n else None
valid_length v = None

abbrev pub with_value : Prop → Value → Prop
with_value p v = record { value = v; writable = p.writable; enumerable = p.enumerable; configurable = p.configurable }

abbrev pub with_length_over : Props → ℕ → Option Prop → Props
with_length_over props n None = props
with_length_over props n (Some p) = with_property props length_name (with_value p (number n))

-- the length becomes n, and keeps its attributes
abbrev pub with_length : Object → ℕ → Object
with_length o n = with_props o (with_length_over o.props n (own_property o.props length_name))

abbrev pub grown_over : ℕ → Attempt Object → Option Throw → Attempt Object
grown_over n attempt None = done (with_length attempt.after n)
grown_over n attempt (Some t) = attempt

-- once an element is defined, the length becomes n
abbrev pub grown : ℕ → Attempt Object → Attempt Object
grown n attempt = grown_over n attempt attempt.thrown

-- an array's element: past the end it makes the array longer, where the length may change (15.4.5.1 step 4)
abbrev pub define_element : Throw → Object → List ℕ → Change → ℕ → Attempt Object
define_element t o name change i =
    if nat_lt i (array_length o) then define_ordinary t o name change
    else (if has_writable_length o then grown (i + 1) (define_ordinary t o name change) else throws o t)

-- an array's property but its length
abbrev pub define_indexed : Throw → Object → List ℕ → Change → Option ℕ → Attempt Object
define_indexed t o name change None = define_ordinary t o name change
define_indexed t o name change (Some i) = define_element t o name change i

-- the name is not the index of an element at `end` or past it
abbrev pub is_below : ℕ → Option ℕ → Bool
is_below end None = true
is_below end (Some i) = nat_lt i end

-- without the elements at `end` and past it
abbrev pub elements_below : ℕ → Props → Props
elements_below end props = filter (λ e. is_below end (index_of e.0)) props

-- the length that is left, with this property
abbrev pub end_with : ℕ → Option ℕ → Bool → ℕ
end_with end None configurable = end
end_with end (Some i) true = end
end_with end (Some i) false = max end (i + 1)

-- how far elements are deleted from the top when the length is to become `end`: down to the last one that is not
-- configurable (15.4.5.1 step 3.l)
abbrev pub end_kept : ℕ → Props → ℕ
end_kept end [] = end
end_kept end (e ∷ es) = end_kept (end_with end (index_of e.0) e.1.configurable) es

-- the elements from `kept` up are gone and the length is that; it was to be `end`
abbrev pub shrunk_to : Throw → Object → Prop → ℕ → ℕ → Attempt Object
shrunk_to t o p end kept = record {
  after = with_props o (with_property (elements_below kept o.props) length_name (with_value p (number kept)));
  thrown = if nat_eq kept end then None else Some t;
}

-- an array's length is defined lower than it is (15.4.5.1 steps 3.g to 3.m), where the length has this property. What is
-- asked of its other attributes comes to be also where an element stops the shrink.
abbrev pub shrunk : Throw → Object → Change → ℕ → Option Prop → Attempt Object
shrunk t o change end None = throws o t
shrunk t o change end (Some p) =
    if p.writable && may_update p change then shrunk_to t o (updated p change) end (end_kept end o.props) else throws o t

-- an array's length is defined as a value that is this length, if any (15.4.5.1 steps 3.c to 3.n)
abbrev pub define_length_as : Throw → Object → Change → Option ℕ → Attempt Object
define_length_as t o change None = throws o InvalidLength
define_length_as t o change (Some n) =
    if nat_le (array_length o) n then define_ordinary t o length_name change
    else shrunk t o change n (own_property o.props length_name)

-- an array's length is defined (15.4.5.1 step 3), with this value, if any
abbrev pub define_length : Throw → Object → Change → Option Value → Attempt Object
define_length t o change None = define_ordinary t o length_name change
define_length t o change (Some v) = define_length_as t o change (valid_length v)

-- 15.4.5.1 for arrays, and 8.12.9 for all others
abbrev pub define : Throw → Object → List ℕ → Change → Attempt Object
define t o name change =
    if is_list o.class
    then (if bytes_eq name length_name then define_length t o change change.value else define_indexed t o name change (index_of name))
    else define_ordinary t o name change

-- the place of the name may not be put, defined or deleted: the object is closed, or it is the global object and the
-- name is that of one of its built-in properties
abbrev pub is_closed_at : Object → List ℕ → Bool
is_closed_at o name = o.closed || (is_window o.class && (names_global name && is_some (own_property o.props name)))

-- [[DefineOwnProperty]] (8.12.9 and 15.4.5.1)
abbrev pub define_own : Object → List ℕ → Change → Attempt Object
define_own o name change = if is_closed_at o name then throws o CannotDefine else define CannotDefine o name change

-- a value for a property that is there (8.12.5 step 3), and one for a new property (step 6)
abbrev pub value_alone : Value → Change
value_alone v = record { value = Some v; writable = None; enumerable = None; configurable = None }

abbrev pub whole_property : Value → Change
whole_property v = record { value = Some v; writable = Some true; enumerable = Some true; configurable = Some true }

abbrev pub put_change : Value → Option Prop → Change
put_change v None = whole_property v
put_change v (Some p) = value_alone v

-- [[Put]] (8.12.5), where the object can be put so or not
abbrev pub put_own : Bool → Object → List ℕ → Value → Attempt Object
put_own can o name v =
    if not (is_closed_at o name) && can then define CannotSet o name (put_change v (own_property o.props name)) else throws o CannotSet

abbrev pub deleted_over : Object → List ℕ → Option Prop → Attempt Object
deleted_over o name None = done o
deleted_over o name (Some p) = if p.configurable then done (with_props o (without_property o.props name)) else throws o CannotDelete

-- [[Delete]] (8.12.7)
abbrev pub delete_own : Object → List ℕ → Attempt Object
delete_own o name = if is_closed_at o name then throws o CannotDelete else deleted_over o name (own_property o.props name)

-- the object gets no new properties any more (15.2.3.10); the global object and closed objects refuse
abbrev pub prevented : Object → Attempt Object
prevented o = if o.closed || is_window o.class then throws o CannotDefine else done (not_extensible o)
