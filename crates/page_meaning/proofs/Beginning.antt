-- A page before its scripts has a sound heap: its built-in objects can be made one after another.
use Rattle.std.specs.Prelude.{suc, ◌<◌, length, nat_lt, ◌≡◌, refl, ℕ, Bool, true, false, not, ◌&&◌, List, [], ◌∷◌, ◌++◌, Option, Some, None, bytes_eq, map}
use Rattle.std.specs.List.{AllByRecursion, IsDistinct}
use Rattle.std.specs.Map.{keys_of}
use Rattle.std.proofs.Common.{subst, sym, ap, ◌∙◌, arith}
use Rattle.dom_tree.specs.Node.{Nodes}
use Rattle.std.proofs.lemmas.List.{append-nil, append_assoc, length_push}
use Rattle.std.proofs.lemmas.Bool.{and_parts, not-true, lt-ltb}
use Rattle.js_values.specs.declared.built_in.BuiltIn.{BuiltIn}
use Rattle.js_values.specs.declared.built_in.BuiltIn.TheVariants as built_in
use Rattle.js_values.specs.declared.ids.ObjId.{ObjId}
use Rattle.js_values.specs.declared.throw.ErrorKind.{ErrorKind}
use Rattle.js_values.specs.declared.throw.ErrorKind.TheVariants as kind
use Rattle.object_heap.specs.declared.object.Class.{Class}
use Rattle.object_heap.specs.declared.object.Class.TheVariants.{Plain, List as Array, Native, Fault, Math, Node, Window}
use Rattle.object_heap.specs.Define.{length_name, number}
use Rattle.object_heap.specs.Array.{IsArray}
use Rattle.object_heap.specs.Heap.{Contents, IsFit, IsSound, empty, new_object}
use Rattle.object_heap.specs.Laws.{Step, after_step, after_steps, makes}
use Rattle.object_heap.specs.Object.{Object, is_list, whole_object, with_closed}
use Rattle.object_heap.specs.Property.{Props, fixed, lasting}
use Rattle.object_heap.proofs.Callers.{new_fit, ordinary_fit, sound_empty, sound_steps}
use Rattle.page_meaning.specs.Places.{built_in_count, event_prototype, event_prototype_place, node_prototype, node_prototype_place, array_prototype, array_prototype_place, at_place, boolean_prototype_place, console_place, error_prototype, error_prototype_place, function_place, function_prototype, math_place, number_prototype_place, object_prototype, range_error_prototype_place, reference_error_prototype_place, string_prototype_place, type_error_prototype_place}
use Rattle.page_meaning.specs.Pristine.{built_ins, node_objects, array_prototype_props, built, constructor_is, error_prototype_props, function_prototype_props, global_props, methods, object_prototype_props, pristine, prototype_is}
use Rattle.page_meaning.specs.Tables.{event_prototype_functions, node_prototype_functions, timer_functions, Method, array_functions, array_prototype_functions, boolean_prototype_functions, console_functions, function_prototype_functions, global_functions, math_functions, number_prototype_functions, object_functions, object_prototype_functions, string_functions, string_prototype_functions}

-- names that differ, by a test
abbrev is_apart : List ℕ → List (List ℕ) → Bool
is_apart x [] = true
is_apart x (y ∷ ys) = not (bytes_eq x y) && is_apart x ys

abbrev do_differ : List (List ℕ) → Bool
do_differ [] = true
do_differ (x ∷ xs) = is_apart x xs && do_differ xs

apart : (x : List ℕ) (ys : List (List ℕ)) → is_apart x ys ≡ true → AllByRecursion (λ y. bytes_eq x y ≡ false) ys
apart x [] h = tt
apart x (y ∷ ys) h = (not-true (bytes_eq x y) (and_parts (not (bytes_eq x y)) (is_apart x ys) h).0, apart x ys (and_parts (not (bytes_eq x y)) (is_apart x ys) h).1)

distinct : (xs : List (List ℕ)) → do_differ xs ≡ true → IsDistinct bytes_eq xs
unfolding IsDistinct
distinct [] h = tt
distinct (x ∷ xs) h = (apart x xs (and_parts (is_apart x xs) (do_differ xs) h).0, distinct xs (and_parts (is_apart x xs) (do_differ xs) h).1)

-- an object that is no array, whose names differ
ordinary : (class : Class) (proto : Option ObjId) (props : Props) → is_list class ≡ false → do_differ (keys_of props) ≡ true → IsFit (whole_object class proto props)
ordinary class proto props list names = ordinary_fit class proto props list (distinct (keys_of props) names)

-- a mark that closes an object changes nothing of this
closed_fit : (o : Object) → IsFit o → IsFit (with_closed o)
closed_fit o fit = record { array = fit.array; names = fit.names }

-- built-in objects, each made in its turn
made : (class : Class) (proto : Option ObjId) (props : Props) → is_list class ≡ false → do_differ (keys_of props) ≡ true → Step
made class proto props list names =
    makes (with_closed (whole_object class proto props)) (closed_fit (whole_object class proto props) (ordinary class proto props list names))

function_made : (which : BuiltIn) (formals : ℕ) (props : Props) → do_differ (length_name ∷ keys_of props) ≡ true → Step
function_made which formals props names = made (Native which) (Some function_prototype) ((length_name, fixed (number formals)) ∷ props) refl names

native_made : BuiltIn → ℕ → Step
native_made which formals = function_made which formals [] refl

method_made : Method → Step
method_made m = native_made m.1 m.2

all_functions : List Method → List Step
all_functions ms = map method_made ms

first_steps : List Step
first_steps =
    makes (whole_object Window None global_props) (ordinary Window None global_props refl refl)
    ∷ made Plain None object_prototype_props refl refl
    ∷ made (Native built_in.FunctionPrototype) (Some object_prototype) function_prototype_props refl refl
    ∷ made Plain (Some object_prototype) (methods console_functions) refl refl
    ∷ (all_functions console_functions
    ++ native_made built_in.Alert 1
    ∷ all_functions timer_functions
    ++ function_made built_in.Object 1 (prototype_is object_prototype ∷ methods object_functions) refl
    ∷ (all_functions object_prototype_functions
    ++ (all_functions object_functions
    ++ function_made built_in.Function 1 (prototype_is function_prototype ∷ []) refl
    ∷ all_functions function_prototype_functions)))

-- the prototype of arrays is one itself
array_prototype_is : IsArray array_prototype_props
array_prototype_is = record {
  length = lasting (number 0);
  there = refl;
  is_length = record { number = refl; small = omega arith; enumerable = refl; configurable = refl };
  above = refl;
}

array_prototype_fit : IsFit (built Array object_prototype array_prototype_props)
array_prototype_fit = record { array = λ list. array_prototype_is; names = distinct (keys_of array_prototype_props) refl }

-- a constructor with its prototype, and what they hold
constructor_steps : (which : BuiltIn) (p : ObjId) (prototype : Step) (inherited own : List Method)
    → do_differ (length_name ∷ keys_of (prototype_is p ∷ methods own)) ≡ true → List Step
constructor_steps which p prototype inherited own names =
    function_made which 1 (prototype_is p ∷ methods own) names ∷ prototype ∷ (all_functions inherited ++ all_functions own)

value_steps : (which : BuiltIn) (p : ObjId) (inherited own : List Method) → do_differ (keys_of (constructor_is which ∷ methods inherited)) ≡ true
    → do_differ (length_name ∷ keys_of (prototype_is p ∷ methods own)) ≡ true → List Step
value_steps which p inherited own below above =
    constructor_steps which p (made Plain (Some object_prototype) (constructor_is which ∷ methods inherited) refl below) inherited own above

error_steps : (which : BuiltIn) (k : ErrorKind) (proto : ObjId) → List Step
error_steps which k proto = function_made which 1 (prototype_is (error_prototype k) ∷ []) refl ∷ made Fault (Some proto) (error_prototype_props which k) refl refl ∷ []

-- a constructor without formals, and a prototype without a constructor
host_steps : (which : BuiltIn) (p : ObjId) (inherited : List Method) → do_differ (keys_of (methods inherited)) ≡ true → List Step
host_steps which p inherited names =
    function_made which 0 (prototype_is p ∷ []) refl ∷ made Plain (Some object_prototype) (methods inherited) refl names ∷ all_functions inherited

node_steps : List Step
node_steps = host_steps built_in.Node node_prototype node_prototype_functions refl ++ host_steps built_in.Event event_prototype event_prototype_functions refl

steps : List Step
steps =
    first_steps
    ++ constructor_steps built_in.Array array_prototype (makes (built Array object_prototype array_prototype_props) array_prototype_fit) array_prototype_functions array_functions refl
    ++ value_steps built_in.String (at_place string_prototype_place) string_prototype_functions string_functions refl refl
    ++ value_steps built_in.Number (at_place number_prototype_place) number_prototype_functions [] refl refl
    ++ value_steps built_in.Boolean (at_place boolean_prototype_place) boolean_prototype_functions [] refl refl
    ++ (made Math (Some object_prototype) (methods math_functions) refl refl ∷ all_functions math_functions)
    ++ error_steps built_in.Error kind.Plain object_prototype
    ++ error_steps built_in.TypeError kind.Type (error_prototype kind.Plain)
    ++ error_steps built_in.RangeError kind.Range (error_prototype kind.Plain)
    ++ error_steps built_in.ReferenceError kind.Reference (error_prototype kind.Plain)
    ++ node_steps
    ++ all_functions global_functions

all_made : after_steps empty steps ≡ record { objects = built_ins; environments = [] }
unfolding node_prototype_place event_prototype_place built_in_count node_steps host_steps array_prototype_place string_prototype_place number_prototype_place boolean_prototype_place math_place console_place error_prototype_place type_error_prototype_place range_error_prototype_place reference_error_prototype_place function_place steps first_steps constructor_steps value_steps error_steps all_functions method_made native_made made function_made
all_made = refl

-- ---- the objects of nodes

one_node : ℕ → Step
one_node k = makes (new_object (Node (record { 0 = k })) (Some node_prototype)) (new_fit (Node (record { 0 = k })) (Some node_prototype))

each_node : ℕ → Nodes → List Step
each_node k [] = []
each_node k (n ∷ ns) = one_node k ∷ each_node (suc k) ns

with_all : List Object → Contents
with_all os = record { objects = os; environments = [] }

settles : (k : ℕ) (os : List Object) → nat_lt node_prototype_place (length os) ≡ true
    → after_step (with_all os) (one_node k) ≡ with_all (os ++ new_object (Node (record { 0 = k })) (Some node_prototype) ∷ [])
unfolding one_node with_all
settles k os there = rw there (refl)

grows : (k : ℕ) (t : Nodes) (os : List Object) → node_prototype_place < length os
    → after_steps (with_all os) (each_node k t) ≡ with_all (os ++ node_objects k t)
unfolding each_node
grows k [] os there = ap with_all (sym (append-nil os))
grows k (n ∷ ns) os there =
    let o = new_object (Node (record { 0 = k })) (Some node_prototype) in
    ap (λ h. after_steps h (each_node (suc k) ns)) (settles k os (lt-ltb _ _ there))
    ∙ grows (suc k) ns (os ++ o ∷ []) (rw (length_push os o) (omega (arith, there)))
    ∙ ap with_all (append_assoc os (o ∷ []) (node_objects (suc k) ns))

enough : node_prototype_place < length built_ins
unfolding node_prototype_place event_prototype_place built_in_count array_prototype_place string_prototype_place number_prototype_place boolean_prototype_place math_place console_place error_prototype_place type_error_prototype_place range_error_prototype_place reference_error_prototype_place function_place
enough = omega arith

pub pristine_sound : (t : Nodes) → IsSound (pristine t).heap
unfolding with_all
pristine_sound t = subst IsSound (grows 0 t built_ins enough) (sound_steps (with_all built_ins) (each_node 0 t) (subst IsSound all_made (sound_steps empty steps sound_empty)))
