-- Paths: by which names a script reaches each built-in object of a page (ECMA-262 5.1 section 15; DOM Level 2 Core and
-- Events; HTML, timers), as a saved page writes them, and what a
-- path leads to. They stand in the order of the objects' places in `Pristine`, by the same families.
use Rattle.std.specs.Prelude.{ℕ, List, [], ◌∷◌, ◌++◌, Option, Some, None, codes, nat_eq, if◌then◌else◌, slice_get}
use Rattle.std.specs.Option.{option_and_then}
use Rattle.js_values.specs.declared.value.Value.{Value}
use Rattle.js_values.specs.declared.value.Value.TheVariants as value
use Rattle.object_heap.specs.Chain.{object_at}
use Rattle.object_heap.specs.Object.{Object}
use Rattle.object_heap.specs.Property.{own_property}
use Rattle.page_meaning.specs.Places.{window}

-- the global object, and the two prototypes that stand before the others
abbrev pub root_paths : List (List ℕ)
root_paths = codes "window" ∷ codes "Object.prototype" ∷ codes "Function.prototype" ∷ []

abbrev pub host_paths : List (List ℕ)
host_paths = codes "console" ∷ codes "console.log" ∷ codes "alert" ∷ []

-- HTML, timers
abbrev pub timer_paths : List (List ℕ)
timer_paths =
    codes "setTimeout"
    ∷ codes "setInterval"
    ∷ codes "setIntervalFrom"
    ∷ codes "clearTimeout"
    ∷ codes "clearInterval" ∷ []

-- 15.2
abbrev pub object_paths : List (List ℕ)
object_paths =
    codes "Object"
    ∷ codes "Object.prototype.toString"
    ∷ codes "Object.prototype.valueOf"
    ∷ codes "Object.prototype.hasOwnProperty"
    ∷ codes "Object.prototype.isPrototypeOf"
    ∷ codes "Object.prototype.propertyIsEnumerable"
    ∷ codes "Object.getPrototypeOf"
    ∷ codes "Object.getOwnPropertyDescriptor"
    ∷ codes "Object.getOwnPropertyNames"
    ∷ codes "Object.create"
    ∷ codes "Object.defineProperty"
    ∷ codes "Object.defineProperties"
    ∷ codes "Object.seal"
    ∷ codes "Object.freeze"
    ∷ codes "Object.preventExtensions"
    ∷ codes "Object.isSealed"
    ∷ codes "Object.isFrozen"
    ∷ codes "Object.isExtensible"
    ∷ codes "Object.keys" ∷ []

-- 15.3
abbrev pub function_paths : List (List ℕ)
function_paths = codes "Function" ∷ codes "Function.prototype.call" ∷ codes "Function.prototype.apply" ∷ codes "Function.prototype.bind" ∷ []

-- 15.4
abbrev pub array_paths : List (List ℕ)
array_paths =
    codes "Array"
    ∷ codes "Array.prototype"
    ∷ codes "Array.prototype.toString"
    ∷ codes "Array.prototype.concat"
    ∷ codes "Array.prototype.join"
    ∷ codes "Array.prototype.pop"
    ∷ codes "Array.prototype.push"
    ∷ codes "Array.prototype.reverse"
    ∷ codes "Array.prototype.shift"
    ∷ codes "Array.prototype.slice"
    ∷ codes "Array.prototype.splice"
    ∷ codes "Array.prototype.unshift"
    ∷ codes "Array.prototype.indexOf"
    ∷ codes "Array.prototype.lastIndexOf"
    ∷ codes "Array.prototype.every"
    ∷ codes "Array.prototype.some"
    ∷ codes "Array.prototype.forEach"
    ∷ codes "Array.prototype.map"
    ∷ codes "Array.prototype.filter"
    ∷ codes "Array.prototype.reduce"
    ∷ codes "Array.isArray" ∷ []

-- 15.5
abbrev pub string_paths : List (List ℕ)
string_paths =
    codes "String"
    ∷ codes "String.prototype"
    ∷ codes "String.prototype.toString"
    ∷ codes "String.prototype.valueOf"
    ∷ codes "String.prototype.charAt"
    ∷ codes "String.prototype.charCodeAt"
    ∷ codes "String.prototype.concat"
    ∷ codes "String.prototype.indexOf"
    ∷ codes "String.prototype.lastIndexOf"
    ∷ codes "String.prototype.slice"
    ∷ codes "String.prototype.split"
    ∷ codes "String.prototype.substring"
    ∷ codes "String.prototype.toLowerCase"
    ∷ codes "String.prototype.toUpperCase"
    ∷ codes "String.prototype.trim"
    ∷ codes "String.fromCharCode" ∷ []

-- 15.7
abbrev pub number_paths : List (List ℕ)
number_paths = codes "Number" ∷ codes "Number.prototype" ∷ codes "Number.prototype.toString" ∷ codes "Number.prototype.valueOf" ∷ []

-- 15.6
abbrev pub boolean_paths : List (List ℕ)
boolean_paths = codes "Boolean" ∷ codes "Boolean.prototype" ∷ codes "Boolean.prototype.toString" ∷ codes "Boolean.prototype.valueOf" ∷ []

-- 15.8
abbrev pub math_paths : List (List ℕ)
math_paths =
    codes "Math"
    ∷ codes "Math.abs"
    ∷ codes "Math.ceil"
    ∷ codes "Math.floor"
    ∷ codes "Math.max"
    ∷ codes "Math.min"
    ∷ codes "Math.pow"
    ∷ codes "Math.round" ∷ []

-- 15.11
abbrev pub error_paths : List (List ℕ)
error_paths =
    codes "Error"
    ∷ codes "Error.prototype"
    ∷ codes "TypeError"
    ∷ codes "TypeError.prototype"
    ∷ codes "RangeError"
    ∷ codes "RangeError.prototype"
    ∷ codes "ReferenceError"
    ∷ codes "ReferenceError.prototype" ∷ []

-- DOM Level 2 Core and Events
abbrev pub node_paths : List (List ℕ)
node_paths =
    codes "Node"
    ∷ codes "Node.prototype"
    ∷ codes "Node.prototype.insertBefore"
    ∷ codes "Node.prototype.replaceChild"
    ∷ codes "Node.prototype.removeChild"
    ∷ codes "Node.prototype.appendChild"
    ∷ codes "Node.prototype.hasChildNodes"
    ∷ codes "Node.prototype.getAttribute"
    ∷ codes "Node.prototype.setAttribute"
    ∷ codes "Node.prototype.removeAttribute"
    ∷ codes "Node.prototype.hasAttribute"
    ∷ codes "Node.prototype.addEventListener"
    ∷ codes "Node.prototype.removeEventListener"
    ∷ codes "Node.prototype.dispatchEvent"
    ∷ codes "Node.prototype.getElementById"
    ∷ codes "Node.prototype.createElement"
    ∷ codes "Node.prototype.createTextNode"
    ∷ codes "Node.prototype.createComment"
    ∷ codes "Node.prototype.createEvent" ∷ []

abbrev pub event_paths : List (List ℕ)
event_paths =
    codes "Event"
    ∷ codes "Event.prototype"
    ∷ codes "Event.prototype.initEvent"
    ∷ codes "Event.prototype.stopPropagation"
    ∷ codes "Event.prototype.preventDefault" ∷ []

-- 15.1.2
abbrev pub global_function_paths : List (List ℕ)
global_function_paths = codes "isNaN" ∷ codes "isFinite" ∷ codes "parseInt" ∷ []

abbrev pub first_paths : List (List ℕ)
first_paths = root_paths ++ (host_paths ++ (timer_paths ++ (object_paths ++ function_paths)))

abbrev pub value_paths : List (List ℕ)
value_paths = array_paths ++ (string_paths ++ (number_paths ++ (boolean_paths ++ math_paths)))

unfoldable pub paths : List (List ℕ)
paths = first_paths ++ (value_paths ++ (error_paths ++ (node_paths ++ (event_paths ++ global_function_paths))))

-- the path of the built-in object at the place, if one stands there
abbrev pub path_of : ℕ → Option (List ℕ)
path_of k = slice_get paths k

-- the names, the first of which begins with one more unit
abbrev pub with_unit : ℕ → List (List ℕ) → List (List ℕ)
with_unit unit [] = (unit ∷ []) ∷ []
with_unit unit (name ∷ names) = (unit ∷ name) ∷ names

-- `.`
abbrev pub dot : ℕ
dot = 46

-- the names that stand between the dots
abbrev pub names_of : List ℕ → List (List ℕ)
names_of [] = [] ∷ []
names_of (unit ∷ units) = if nat_eq unit dot then [] ∷ names_of units else with_unit unit (names_of units)

-- the place of the object that a value is
abbrev pub place_of : Value → Option ℕ
place_of (value.Object at) = Some at.0
place_of v = None

-- the place of the object that the one at a place holds in its own property of the name (8.12.1)
abbrev pub held_by : List Object → ℕ → List ℕ → Option ℕ
held_by objects k name = option_and_then (λ p. place_of p.value) (own_property (object_at objects k).props name)

-- where the names lead from a place, each from the object before
abbrev pub led_from : List Object → ℕ → List (List ℕ) → Option ℕ
led_from objects k [] = Some k
led_from objects k (name ∷ names) = option_and_then (λ next. led_from objects next names) (held_by objects k name)

-- the place of the object that the path leads to: its first name is a property of the global object, and `window` is too (15.1)
abbrev pub leads : List Object → List ℕ → Option ℕ
leads objects path = led_from objects window.0 (names_of path)
