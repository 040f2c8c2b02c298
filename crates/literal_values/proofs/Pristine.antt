-- A page before its scripts is literal, where its nodes are: of the built-in objects it is seen.
use Rattle.std.proofs.Common.{◌≡◌, refl, ℕ, suc, pos, negsuc, Bool, true, false, ◌&&◌, List, [], ◌∷◌, ◌++◌, Some, None, nat_le, arith}
use Rattle.std.specs.List.{All, list_all}
use Rattle.std.proofs.lemmas.Bool.{and_parts, leb-true}
use Rattle.std.proofs.lemmas.List.Elements.{All-append, All-cons, All-nil}
use Rattle.js_core.specs.Whole.{largest}
use Rattle.js_values.specs.declared.value.Value.{Value}
use Rattle.js_values.specs.declared.value.Value.TheVariants.{Undefined, Null, Bool as Truth, Num, Text, Object as Obj}
use Rattle.dom_tree.specs.Node.{Nodes}
use Rattle.object_heap.specs.Object.{Object}
use Rattle.object_heap.specs.Property.{Props}
use Rattle.object_heap.specs.declared.object.Class.{Class}
use Rattle.object_heap.specs.declared.object.Class.TheVariants.{Bound, Event, Fault, List as Array, Math, Native, Node, Page, Plain, Window}
use Rattle.page_meaning.specs.Places.{node_prototype}
use Rattle.page_meaning.specs.Pristine.{array_built_ins, boolean_built_ins, built_ins, error_built_ins, first_built_ins, function_built_ins, host_built_ins, math_built_ins, natives, node_built_ins, node_objects, number_built_ins, object_built_ins, root_objects, string_built_ins, value_kinds}
use Rattle.page_meaning.specs.Tables.{global_functions}
use Rattle.literal_values.proofs.Heap.{new_in}
use Rattle.literal_values.proofs.Units.{is_text, text_seen}
use Rattle.literal_values.specs.Laws.{PristineIsLiteral}
use Rattle.literal_values.specs.Objects.{LiteralClass, LiteralObject, LiteralProps}
use Rattle.literal_values.specs.Stores.{LiteralListener}
use Rattle.literal_values.specs.Values.{IsBounded}

-- ---- tests

abbrev value_test : Value → Bool
value_test (Text t) = is_text t
value_test (Num (Some (pos k))) = nat_le k largest
value_test (Num (Some (negsuc k))) = nat_le (suc k) largest
value_test v = true

abbrev props_test : Props → Bool
props_test [] = true
props_test (e ∷ es) = is_text e.0 && (value_test e.1.value && props_test es)

abbrev class_test : Class → Bool
class_test (Page c env) = false
class_test (Bound target this args) = false
class_test (Event parts) = false
class_test c = true

abbrev object_test : Object → Bool
object_test o = class_test o.class && props_test o.props

value_seen : (v : Value) → value_test v ≡ true → IsBounded v
value_seen Undefined h = tt
value_seen Null h = tt
value_seen (Truth b) h = tt
value_seen (Num None) h = tt
value_seen (Num (Some (pos n))) h = leb-true n largest h
value_seen (Num (Some (negsuc n))) h = leb-true (suc n) largest h
value_seen (Text t) h = text_seen t h
value_seen (Obj at) h = tt

props_seen : (es : Props) → props_test es ≡ true → LiteralProps es
props_seen [] h = tt
props_seen (e ∷ es) h =
    let parts = and_parts (is_text e.0) (value_test e.1.value && props_test es) h in
    let more = and_parts (value_test e.1.value) (props_test es) parts.1 in
    (text_seen e.0 parts.0, value_seen e.1.value more.0, props_seen es more.1)

class_seen : (c : Class) → class_test c ≡ true → LiteralClass c
class_seen Plain h = tt
class_seen Array h = tt
class_seen (Page c env) h = absurd (cc h)
class_seen (Native which) h = tt
class_seen (Bound target this args) h = absurd (cc h)
class_seen Fault h = tt
class_seen Math h = tt
class_seen Window h = tt
class_seen (Node n) h = tt
class_seen (Event parts) h = absurd (cc h)

object_seen : (o : Object) → object_test o ≡ true → LiteralObject o
object_seen o h =
    let parts = and_parts (class_test o.class) (props_test o.props) h in
    record { class = class_seen o.class parts.0; props = props_seen o.props parts.1 }

objects_seen : (os : List Object) → list_all object_test os ≡ true → All LiteralObject os
objects_seen [] h = All-nil LiteralObject
objects_seen (o ∷ os) h =
    let parts = and_parts (object_test o) (list_all object_test os) h in
    All-cons LiteralObject o os (object_seen o parts.0) (objects_seen os parts.1)

-- ---- built-in objects

both : (os ps : List Object) → All LiteralObject os → All LiteralObject ps → All LiteralObject (os ++ ps)
both os ps h k = All-append LiteralObject os ps h k

roots_literal : All LiteralObject root_objects
roots_literal = objects_seen root_objects refl

hosts_literal : All LiteralObject host_built_ins
hosts_literal = objects_seen host_built_ins refl

objects_literal : All LiteralObject object_built_ins
objects_literal = objects_seen object_built_ins refl

functions_literal : All LiteralObject function_built_ins
functions_literal = objects_seen function_built_ins refl

arrays_literal : All LiteralObject array_built_ins
arrays_literal = objects_seen array_built_ins refl

strings_literal : All LiteralObject string_built_ins
strings_literal = objects_seen string_built_ins refl

numbers_literal : All LiteralObject number_built_ins
numbers_literal = objects_seen number_built_ins refl

booleans_literal : All LiteralObject boolean_built_ins
booleans_literal = objects_seen boolean_built_ins refl

math_literal : All LiteralObject math_built_ins
math_literal = objects_seen math_built_ins refl

errors_literal : All LiteralObject error_built_ins
errors_literal = objects_seen error_built_ins refl

host_prototypes_literal : All LiteralObject node_built_ins
host_prototypes_literal = objects_seen node_built_ins refl

globals_literal : All LiteralObject (natives global_functions)
globals_literal = objects_seen (natives global_functions) refl

first_literal : All LiteralObject first_built_ins
first_literal =
    both root_objects (host_built_ins ++ (object_built_ins ++ function_built_ins)) roots_literal
    (both host_built_ins (object_built_ins ++ function_built_ins) hosts_literal (both object_built_ins function_built_ins objects_literal functions_literal))

kinds_literal : All LiteralObject value_kinds
kinds_literal =
    both array_built_ins (string_built_ins ++ (number_built_ins ++ (boolean_built_ins ++ math_built_ins))) arrays_literal
    (both string_built_ins (number_built_ins ++ (boolean_built_ins ++ math_built_ins)) strings_literal
    (both number_built_ins (boolean_built_ins ++ math_built_ins) numbers_literal (both boolean_built_ins math_built_ins booleans_literal math_literal)))

last_literal : All LiteralObject (error_built_ins ++ (node_built_ins ++ natives global_functions))
last_literal =
    both error_built_ins (node_built_ins ++ natives global_functions) errors_literal (both node_built_ins (natives global_functions) host_prototypes_literal globals_literal)

pub built_ins_literal : All LiteralObject built_ins
built_ins_literal =
    both first_built_ins (value_kinds ++ (error_built_ins ++ (node_built_ins ++ natives global_functions))) first_literal
    (both value_kinds (error_built_ins ++ (node_built_ins ++ natives global_functions)) kinds_literal last_literal)

nodes_literal : (k : ℕ) (t : Nodes) → All LiteralObject (node_objects k t)
nodes_literal k [] = All-nil LiteralObject
nodes_literal k (n ∷ ns) = All-cons LiteralObject _ (node_objects (suc k) ns) (new_in (Node (record { 0 = k })) (Some node_prototype) tt) (nodes_literal (suc k) ns)

pub pristine_literal : PristineIsLiteral
pristine_literal t h = record {
  heap = record { objects = both built_ins (node_objects 0 t) built_ins_literal (nodes_literal 0 t); environments = All-nil _ };
  host = record { nodes = h; listeners = All-nil LiteralListener; timers = omega arith };
}
