-- Meaning: a page before its scripts (section 15). The built-in objects by age: `window`, `Object.prototype`, `Function.prototype`, and
-- then those that a walk from `window` meets: it goes through own properties in order, and into an object at once.
use Rattle.std.specs.Prelude.{ℕ, suc, List, [], ◌∷◌, ◌++◌, Some, None, codes, length, map}
use Rattle.js_values.specs.declared.built_in.BuiltIn.{BuiltIn}
use Rattle.js_values.specs.declared.built_in.BuiltIn.TheVariants as built_in
use Rattle.js_values.specs.declared.ids.ObjId.{ObjId}
use Rattle.js_values.specs.declared.throw.ErrorKind.{ErrorKind}
use Rattle.js_values.specs.declared.throw.ErrorKind.TheVariants as kind
use Rattle.js_values.specs.declared.value.Value.TheVariants as value
use Rattle.js_values.specs.Throw.{kind_name}
use Rattle.js_core.specs.Whole.{nan}
use Rattle.object_heap.specs.declared.object.Class.{Class}
use Rattle.object_heap.specs.declared.object.Class.TheVariants.{Plain, List as Array, Native, Fault, Math, Node, Window}
use Rattle.object_heap.specs.declared.property.Prop.{Prop}
use Rattle.object_heap.specs.Define.{length_name, number}
use Rattle.object_heap.specs.Heap.{new_object}
use Rattle.dom_tree.specs.Node.{Nodes}
use Rattle.object_heap.specs.Object.{Object, whole_object, with_closed}
use Rattle.object_heap.specs.Property.{Props, fixed, hidden, lasting}
use Rattle.page_host.specs.Host.{new_host}
use Rattle.page_meaning.specs.Places.{at_place, window, array_prototype, boolean_prototype_place, console_place, document, built_in_count, error_prototype, event_prototype, node_prototype, function_at, function_prototype, math_place, number_prototype_place, object_prototype, string_prototype_place}
use Rattle.page_meaning.specs.Store.{Store, silent}
use Rattle.page_meaning.specs.Tables.{Method, array_functions, array_prototype_functions, boolean_prototype_functions, console_functions, event_prototype_functions, function_prototype_functions, global_functions, math_functions, node_prototype_functions, number_prototype_functions, object_functions, object_prototype_functions, string_functions, string_prototype_functions, timer_functions}

-- a property that holds a built-in function
abbrev pub method : List ℕ → BuiltIn → List ℕ × Prop
method name which = (name, hidden (value.Object (function_at which)))

abbrev pub constructor_is : BuiltIn → List ℕ × Prop
constructor_is which = method (codes "constructor") which

abbrev pub prototype_is : ObjId → List ℕ × Prop
prototype_is p = (codes "prototype", fixed (value.Object p))

-- a built-in object, which is closed
abbrev pub built : Class → ObjId → Props → Object
built class proto props = with_closed (whole_object class (Some proto) props)

-- a built-in function with so many formals, and what it has besides (section 15)
abbrev pub native_with : BuiltIn → ℕ → Props → Object
native_with which formals props = built (Native which) function_prototype ((length_name, fixed (number formals)) ∷ props)

abbrev pub native : BuiltIn → ℕ → Object
native which formals = native_with which formals []

abbrev pub method_of : Method → List ℕ × Prop
method_of m = method m.0 m.1

abbrev pub native_of : Method → Object
native_of m = native m.1 m.2

-- an object's properties that hold these, and the functions themselves
abbrev pub methods : List Method → Props
methods ms = map method_of ms

abbrev pub natives : List Method → List Object
natives ms = map native_of ms

-- the properties of the global object (15.1): the host's, the constructors and Math, the errors, and the rest
abbrev pub global_host : Props
global_host =
    (codes "window", fixed (value.Object window)) ∷ (codes "document", fixed (value.Object document)) ∷ (codes "console", hidden (value.Object (at_place console_place)))
    ∷ method (codes "alert") built_in.Alert ∷ methods timer_functions

abbrev pub global_constructors : Props
global_constructors =
    method (codes "Object") built_in.Object
    ∷ method (codes "Function") built_in.Function
    ∷ method (codes "Array") built_in.Array
    ∷ method (codes "String") built_in.String
    ∷ method (codes "Number") built_in.Number
    ∷ method (codes "Boolean") built_in.Boolean
    ∷ (codes "Math", hidden (value.Object (at_place math_place))) ∷ []

abbrev pub global_errors : Props
global_errors =
    method (codes "Error") built_in.Error
    ∷ method (codes "TypeError") built_in.TypeError
    ∷ method (codes "RangeError") built_in.RangeError
    ∷ method (codes "ReferenceError") built_in.ReferenceError ∷ []

abbrev pub global_nodes : Props
global_nodes = method (codes "Node") built_in.Node ∷ method (codes "Event") built_in.Event ∷ []

abbrev pub global_values : Props
global_values = (codes "undefined", fixed value.Undefined) ∷ (codes "NaN", fixed (value.Num nan)) ∷ []

abbrev pub global_props : Props
global_props = global_host ++ (global_constructors ++ (global_errors ++ (global_nodes ++ (methods global_functions ++ global_values))))

-- how many properties the global object begins with. It does not unfold.
unfoldable pub built_in_globals : ℕ
built_in_globals = length global_props

abbrev pub object_prototype_props : Props
object_prototype_props = constructor_is built_in.Object ∷ methods object_prototype_functions

abbrev pub function_prototype_props : Props
function_prototype_props = (length_name, fixed (number 0)) ∷ constructor_is built_in.Function ∷ methods function_prototype_functions

abbrev pub array_prototype_props : Props
array_prototype_props = (length_name, lasting (number 0)) ∷ constructor_is built_in.Array ∷ methods array_prototype_functions

-- 15.11.4 and 15.11.7
abbrev pub error_prototype_props : BuiltIn → ErrorKind → Props
error_prototype_props which k =
    constructor_is which ∷ (codes "name", hidden (value.Text (kind_name k))) ∷ (codes "message", hidden (value.Text [])) ∷ []

-- a constructor with one formal, which has this prototype and these functions
abbrev pub constructor : BuiltIn → ObjId → List Method → Object
constructor which p own = native_with which 1 (prototype_is p ∷ methods own)

-- it with its prototype, which is this object, and what they hold
abbrev pub constructor_built_ins : BuiltIn → ObjId → Object → List Method → List Method → List Object
constructor_built_ins which p prototype inherited own = constructor which p own ∷ prototype ∷ (natives inherited ++ natives own)

-- one with so many formals, which has no functions of its own
abbrev pub constructor_built_ins_of : ℕ → BuiltIn → ObjId → Object → List Method → List Object
constructor_built_ins_of formals which p prototype inherited = native_with which formals (prototype_is p ∷ []) ∷ prototype ∷ natives inherited

-- a constructor whose prototype is an ordinary object
abbrev pub value_prototype : BuiltIn → List Method → Object
value_prototype which inherited = built Plain object_prototype (constructor_is which ∷ methods inherited)

abbrev pub value_built_ins : BuiltIn → ObjId → List Method → List Method → List Object
value_built_ins which p inherited own = constructor_built_ins which p (value_prototype which inherited) inherited own

-- the constructor of errors of a kind, and its prototype below this object
abbrev pub error_pair : BuiltIn → ErrorKind → ObjId → List Object
error_pair which k above = constructor which (error_prototype k) [] ∷ built Fault above (error_prototype_props which k) ∷ []

-- the global object and the two prototypes that stand before the walk
abbrev pub root_objects : List Object
root_objects =
    whole_object Window None global_props
    ∷ with_closed (whole_object Plain None object_prototype_props)
    ∷ built (Native built_in.FunctionPrototype) object_prototype function_prototype_props ∷ []

abbrev pub host_built_ins : List Object
host_built_ins = built Plain object_prototype (methods console_functions) ∷ (natives console_functions ++ native built_in.Alert 1 ∷ natives timer_functions)

-- `Object`, `Function` and what their prototypes and they hold; the prototypes stand before
abbrev pub object_built_ins : List Object
object_built_ins = constructor built_in.Object object_prototype object_functions ∷ (natives object_prototype_functions ++ natives object_functions)

abbrev pub function_built_ins : List Object
function_built_ins = constructor built_in.Function function_prototype [] ∷ natives function_prototype_functions

abbrev pub array_built_ins : List Object
array_built_ins =
    constructor_built_ins built_in.Array array_prototype (built Array object_prototype array_prototype_props) array_prototype_functions array_functions

abbrev pub string_built_ins : List Object
string_built_ins = value_built_ins built_in.String (at_place string_prototype_place) string_prototype_functions string_functions

abbrev pub number_built_ins : List Object
number_built_ins = value_built_ins built_in.Number (at_place number_prototype_place) number_prototype_functions []

abbrev pub boolean_built_ins : List Object
boolean_built_ins = value_built_ins built_in.Boolean (at_place boolean_prototype_place) boolean_prototype_functions []

abbrev pub math_built_ins : List Object
math_built_ins = built Math object_prototype (methods math_functions) ∷ natives math_functions

abbrev pub error_built_ins : List Object
error_built_ins =
    error_pair built_in.Error kind.Plain object_prototype
    ++ (error_pair built_in.TypeError kind.Type (error_prototype kind.Plain)
    ++ (error_pair built_in.RangeError kind.Range (error_prototype kind.Plain)
    ++ error_pair built_in.ReferenceError kind.Reference (error_prototype kind.Plain)))

-- the prototypes of nodes and events have no `constructor`
abbrev pub host_prototype : List Method → Object
host_prototype inherited = built Plain object_prototype (methods inherited)

abbrev pub node_built_ins : List Object
node_built_ins =
    constructor_built_ins_of 0 built_in.Node node_prototype (host_prototype node_prototype_functions) node_prototype_functions
    ++ constructor_built_ins_of 0 built_in.Event event_prototype (host_prototype event_prototype_functions) event_prototype_functions

-- what the walk meets, in its order
abbrev pub first_built_ins : List Object
first_built_ins = root_objects ++ (host_built_ins ++ (object_built_ins ++ function_built_ins))

abbrev pub value_kinds : List Object
value_kinds = array_built_ins ++ (string_built_ins ++ (number_built_ins ++ (boolean_built_ins ++ math_built_ins)))

abbrev pub built_ins : List Object
built_ins = first_built_ins ++ (value_kinds ++ (error_built_ins ++ (node_built_ins ++ natives global_functions)))

-- an object for each node, in the order of the nodes; that of the document is the first after the built-in ones
abbrev pub node_objects : ℕ → Nodes → List Object
node_objects k [] = []
node_objects k (n ∷ ns) = new_object (Node (record { 0 = k })) (Some node_prototype) ∷ node_objects (suc k) ns

abbrev pub places_from : ℕ → Nodes → List ObjId
places_from k [] = []
places_from k (n ∷ ns) = at_place k ∷ places_from (suc k) ns

-- a page before its scripts, with these nodes
abbrev pub pristine : Nodes → Store
pristine t = silent (record { objects = built_ins ++ node_objects 0 t; environments = [] }) (new_host t (places_from built_in_count t))
