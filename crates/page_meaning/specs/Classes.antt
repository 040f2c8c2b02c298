-- Meaning: classes of objects, by which the host's objects are told from those that the language makes.
use Rattle.std.specs.Prelude.{Bool, true, false, Option, Some, None}
use Rattle.js_values.specs.declared.ids.ObjId.{ObjId}
use Rattle.js_values.specs.declared.value.Value.{Value}
use Rattle.js_values.specs.declared.value.Value.TheVariants.{Object}
use Rattle.object_heap.specs.declared.object.Class.{Class}
use Rattle.object_heap.specs.declared.object.Class.TheVariants.{Page, Native, Bound, Node, Event}
use Rattle.object_heap.specs.Chain.{object_at}
use Rattle.dom_tree.specs.Node.{Nodes}
use Rattle.dom_tree.specs.Steps.{is_there}
use Rattle.page_meaning.specs.Store.{Store}

-- the classes of objects that the language makes by itself
abbrev pub is_made : Class → Bool
is_made (Node k) = false
is_made (Event parts) = false
is_made class = true

-- those of functions
abbrev pub is_callable_class : Class → Bool
is_callable_class (Page c env) = true
is_callable_class (Native which) = true
is_callable_class (Bound target this args) = true
is_callable_class class = false

-- those of nodes that are there
abbrev pub is_node_class : Nodes → Class → Bool
is_node_class t (Node k) = is_there t k
is_node_class t class = false

-- the class of an object
abbrev pub class_at : Store → ObjId → Class
class_at s at = (object_at s.heap.objects at.0).class

-- the class of a value that is an object
abbrev pub class_of : Store → Value → Option Class
class_of s (Object at) = Some (class_at s at)
class_of s v = None

abbrev pub is_function : Option Class → Bool
is_function (Some class) = is_callable_class class
is_function None = false
