-- Meaning: arrays by index (section 15.4). A turn of an index loop takes a step; turns over the arguments of a call take none.
use Rattle.std.specs.Prelude.{ℕ, zero, suc, List, [], ◌∷◌, Option, Some, None, if◌then◌else◌}
use Rattle.std.specs.Fmt.{decimal}
use Rattle.js_values.specs.declared.ids.ObjId.{ObjId}
use Rattle.js_values.specs.declared.throw.Throw.TheVariants.{WrongArgument}
use Rattle.js_values.specs.declared.value.Value.{Value}
use Rattle.js_values.specs.declared.value.Value.TheVariants.{Object}
use Rattle.object_heap.specs.Chain.{get}
use Rattle.object_heap.specs.Define.{length_name, number, number_in}
use Rattle.object_heap.specs.Object.{is_list}
use Rattle.page_meaning.specs.Act.{Act, bind, done, also, asking}
use Rattle.page_meaning.specs.Errors.{raise}
use Rattle.page_meaning.specs.Primitives.{take_step}
use Rattle.page_meaning.specs.Properties.{class_at, define_member, delete_member, get_at, put_in}
use Rattle.page_meaning.specs.Store.{Store}

-- the array that a value is
abbrev pub list_in : Value → Store → Option ObjId
list_in (Object at) s = if is_list (class_at s at) then Some at else None
list_in v s = None

abbrev pub on_some : (ObjId → Act) → Option ObjId → Act
on_some f None = raise WrongArgument
on_some f (Some at) = f at

-- a value that must be an array
abbrev pub on_list : Value → (ObjId → Act) → Act
on_list v f = asking (list_in v) (on_some f)

-- the length of an array, or of a function, which is a number of its own
abbrev pub length_of : ObjId → Store → ℕ
length_of at s = number_in (get_at s at length_name)

-- what an array has at an index, itself or from a prototype, if it has something there
abbrev pub element : ObjId → ℕ → Store → Option Value
element at k s = get s.heap.objects at.0 (decimal k)

-- the same as a value: undefined where there is nothing
abbrev pub element_or : ObjId → ℕ → Store → Value
element_or at k s = get_at s at (decimal k)

abbrev pub on_element : Act → (Value → Act) → Option Value → Act
on_element without f None = without
on_element without f (Some v) = f v

-- what is done to one element gives nothing
abbrev pub put_element : ObjId → ℕ → Value → Act
put_element at k v = also (put_in at (decimal k) v) (λ _. done)

abbrev pub define_element : ObjId → ℕ → Value → Act
define_element at k v = also (define_member at (decimal k) v) (λ _. done)

abbrev pub delete_element : ObjId → ℕ → Act
delete_element at k = also (delete_member (Object at) (decimal k)) (λ _. done)

-- the length becomes the number, which is given
abbrev pub set_length : ObjId → ℕ → Act
set_length at n = put_in at length_name (number n)

-- so many turns upwards, the next of this number: each takes its step, and does what is done there
abbrev pub turns_up : (ℕ → Act) → ℕ → ℕ → Act
turns_up body i zero = done
turns_up body i (suc m) = bind take_step (λ _. also (body i) (λ _. turns_up body (suc i) m))

-- so many turns downwards to 0
abbrev pub turns_down : (ℕ → Act) → ℕ → Act
turns_down body zero = done
turns_down body (suc i) = bind take_step (λ _. also (body i) (λ _. turns_down body i))

-- the values are put one after another from this index on
abbrev pub put_each : ObjId → ℕ → List Value → Act
put_each at k [] = done
put_each at k (v ∷ vs) = also (put_element at k v) (λ _. put_each at (suc k) vs)
