-- Functions as objects (ECMA-262 5.1 sections 13.2 and 15.3.5), each with the `prototype` that it begins with.
use Rattle.std.specs.Prelude.{ℕ, ◌+◌, List, [], ◌∷◌, Option, codes, length}
use Rattle.js_values.specs.declared.ids.ObjId.{ObjId}
use Rattle.js_values.specs.declared.value.Value.TheVariants as value
use Rattle.object_heap.specs.declared.object.Class.{Class}
use Rattle.object_heap.specs.declared.object.Class.TheVariants.{Plain}
use Rattle.object_heap.specs.Define.{length_name, number}
use Rattle.object_heap.specs.Heap.{Contents, made}
use Rattle.object_heap.specs.Object.{Object, whole_object}
use Rattle.object_heap.specs.Property.{fixed, hidden, lasting}

abbrev pub prototype_name : List ℕ
prototype_name = codes "prototype"

abbrev pub constructor_name : List ℕ
constructor_name = codes "constructor"

-- a function object with a number of formals, whose `prototype` is at the place
abbrev pub function_object : Class → Option ObjId → ℕ → ℕ → Object
function_object class proto formals at =
    whole_object class proto ((length_name, fixed (number formals)) ∷ (prototype_name, lasting (value.Object (record { 0 = at }))) ∷ [])

-- the `prototype` of the function at the place
abbrev pub prototype_object : Option ObjId → ℕ → Object
prototype_object proto at = whole_object Plain proto ((constructor_name, hidden (value.Object (record { 0 = at }))) ∷ [])

-- a function and then its `prototype`, which is younger; the class, the prototype and the number of formals are the
-- function's, and the last is the prototype of its `prototype`
abbrev pub with_function : Contents → Class → Option ObjId → ℕ → Option ObjId → Contents
with_function h class proto formals above =
    made (made h (function_object class proto formals (length h.objects + 1))) (prototype_object above (length h.objects))
