-- New objects and arrays of both pages (sections 11.1.4 and 11.1.5).
use Rattle.std.proofs.Common.{refl, ◌≤◌, true, [], arith, Some}
use Rattle.js_values.specs.declared.ids.ObjId.{ObjId}
use Rattle.object_heap.proofs.Callers.{new_fit}
use Rattle.object_heap.specs.Heap.{new_object}
use Rattle.object_heap.specs.Object.{whole_object}
use Rattle.object_heap.specs.Property.{Props}
use Rattle.object_heap.specs.declared.object.Class.{Class}
use Rattle.object_heap.specs.declared.object.Class.TheVariants as class
use Rattle.page_meaning.specs.Act.{ActOf, bind}
use Rattle.page_meaning.specs.Expressions.{new_list, new_plain}
use Rattle.page_meaning.specs.Functions.{object_of}
use Rattle.page_meaning.specs.Places.{array_prototype, array_prototype_place, object_prototype}
use Rattle.heap_relations.specs.Naming.{Named, named, World}
use Rattle.heap_relations.specs.Related.{ClassRel, Entries, ObjectRel, PropRel, array, entry, no_entries, num, plain, some}
use Rattle.agreement.proofs.Acts.{bind_rel, on_built_ins}
use Rattle.agreement.proofs.Heap.{make_rel}
use Rattle.agreement.proofs.Values.{give_rel, object_value_rel}
use Rattle.page_meaning.specs.Places.{built_in_count}
use Rattle.agreement.specs.Acts.{ActRel, Agrees, HasBuiltIns, Ids}

pub object_of_rel : {V : World} (a b : ObjId) → Named V a.0 b.0 → Agrees V (object_of a) (object_of b)
object_of_rel a b n = give_rel (object_value_rel a b n)

-- the new object as a value
pub made_rel : {V : World} {p q : ActOf ObjId} → ActRel Ids V p q → Agrees V (bind p object_of) (bind q object_of)
made_rel m = bind_rel m (λ W l a b n. object_of_rel a b n)

-- a whole object whose prototype is built in
pub whole_rel : {V : World} {c d : Class} {xs ys : Props} (p : ObjId) → p.0 ≤ built_in_count → HasBuiltIns V → ClassRel (named V) c d → Entries (PropRel (named V)) xs ys
    → ObjectRel (named V) (whole_object c (Some p) xs) (whole_object d (Some p) ys)
whole_rel p h there r e = record { class = r; proto = some (record { linked = there p.0 h }); extensible = refl; closed = refl; props = e }

pub object_place : object_prototype.0 ≤ built_in_count
unfolding built_in_count
object_place = omega arith

pub array_place : array_prototype.0 ≤ built_in_count
unfolding built_in_count array_prototype_place
array_place = omega arith

new_list_object_rel : {V : World} → HasBuiltIns V → ObjectRel (named V) (new_object class.List (Some array_prototype)) (new_object class.List (Some array_prototype))
new_list_object_rel there = whole_rel array_prototype array_place there array (entry (record { value = num; writable = refl; enumerable = refl; configurable = refl }) no_entries)

pub new_plain_rel : {V : World} → ActRel Ids V new_plain new_plain
new_plain_rel = on_built_ins (λ U i there. make_rel (new_object class.Plain (Some object_prototype)) (new_object class.Plain (Some object_prototype))
    (new_fit class.Plain (Some object_prototype)) (new_fit class.Plain (Some object_prototype)) refl refl (whole_rel object_prototype object_place there plain no_entries) refl refl (λ W l s t g. tt))

pub new_list_rel : {V : World} → ActRel Ids V new_list new_list
new_list_rel = on_built_ins (λ U i there. make_rel (new_object class.List (Some array_prototype)) (new_object class.List (Some array_prototype))
    (new_fit class.List (Some array_prototype)) (new_fit class.List (Some array_prototype)) refl refl (new_list_object_rel there) refl refl
    (λ W l s t g. (refl, record { count = 0; writable = true; others = []; are = refl })))
