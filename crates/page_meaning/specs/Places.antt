-- Meaning: the places of the built-in objects, by age: `window`, `Object.prototype`, `Function.prototype`, and then family by family in
-- the order in which a walk from `window` meets them. The places do not unfold.
use Rattle.std.specs.Prelude.{ℕ, ◌+◌, length, Option, Some}
use Rattle.js_values.specs.declared.built_in.BuiltIn.{BuiltIn}
use Rattle.js_values.specs.declared.built_in.BuiltIn.TheVariants as built_in
use Rattle.js_values.specs.declared.ids.ObjId.{ObjId}
use Rattle.js_values.specs.declared.throw.ErrorKind.{ErrorKind}
use Rattle.js_values.specs.declared.throw.ErrorKind.TheVariants as kind
use Rattle.page_meaning.specs.Tables.{array_functions, array_prototype_functions, boolean_prototype_functions, console_functions, event_prototype_functions, function_prototype_functions, global_functions, math_functions, node_prototype_functions, number_prototype_functions, object_functions, object_prototype_functions, string_functions, string_prototype_functions, timer_functions}

abbrev pub at_place : ℕ → ObjId
at_place k = record { 0 = k }

abbrev pub window : ObjId
window = at_place 0

abbrev pub object_prototype : ObjId
object_prototype = at_place 1

abbrev pub function_prototype : ObjId
function_prototype = at_place 2

-- ---- the first place of each family: `console` and its functions, then `alert`; timers; each constructor with its prototype and what both
-- hold; `Math`; the constructors of errors, each with its prototype; nodes; events; what the global object holds besides

abbrev pub console_base : ℕ
console_base = 3

abbrev pub timer_base : ℕ
timer_base = console_base + (1 + length console_functions + 1)

abbrev pub object_base : ℕ
object_base = timer_base + length timer_functions

abbrev pub function_base : ℕ
function_base = object_base + (1 + length object_prototype_functions + length object_functions)

abbrev pub array_base : ℕ
array_base = function_base + (1 + length function_prototype_functions)

abbrev pub string_base : ℕ
string_base = array_base + (2 + length array_prototype_functions + length array_functions)

abbrev pub number_base : ℕ
number_base = string_base + (2 + length string_prototype_functions + length string_functions)

abbrev pub boolean_base : ℕ
boolean_base = number_base + (2 + length number_prototype_functions)

abbrev pub math_base : ℕ
math_base = boolean_base + (2 + length boolean_prototype_functions)

abbrev pub error_base : ℕ
error_base = math_base + (1 + length math_functions)

abbrev pub node_base : ℕ
node_base = error_base + 8

abbrev pub event_base : ℕ
event_base = node_base + (2 + length node_prototype_functions)

abbrev pub global_base : ℕ
global_base = event_base + (2 + length event_prototype_functions)

unfoldable pub console_place : ℕ
console_place = console_base

unfoldable pub math_place : ℕ
math_place = math_base

-- how many objects are built in, the global object among them
unfoldable pub built_in_count : ℕ
built_in_count = global_base + length global_functions

-- ---- prototypes

unfoldable pub array_prototype_place : ℕ
array_prototype_place = array_base + 1

unfoldable pub string_prototype_place : ℕ
string_prototype_place = string_base + 1

unfoldable pub number_prototype_place : ℕ
number_prototype_place = number_base + 1

unfoldable pub boolean_prototype_place : ℕ
boolean_prototype_place = boolean_base + 1

unfoldable pub error_prototype_place : ℕ
error_prototype_place = error_base + 1

unfoldable pub type_error_prototype_place : ℕ
type_error_prototype_place = error_base + 3

unfoldable pub range_error_prototype_place : ℕ
range_error_prototype_place = error_base + 5

unfoldable pub reference_error_prototype_place : ℕ
reference_error_prototype_place = error_base + 7

unfoldable pub node_prototype_place : ℕ
node_prototype_place = node_base + 1

unfoldable pub event_prototype_place : ℕ
event_prototype_place = event_base + 1

-- ---- functions: each family from its first place on

unfoldable pub function_place : BuiltIn → ℕ
function_place built_in.FunctionPrototype = 2
function_place built_in.ConsoleLog = console_base + 1
function_place built_in.Alert = console_base + 2
function_place built_in.SetTimeout = timer_base
function_place built_in.SetInterval = timer_base + 1
function_place built_in.SetIntervalFrom = timer_base + 2
function_place built_in.ClearTimeout = timer_base + 3
function_place built_in.ClearInterval = timer_base + 4
function_place built_in.Object = object_base
function_place built_in.ObjectPrototypeToString = object_base + 1
function_place built_in.ObjectPrototypeValueOf = object_base + 2
function_place built_in.ObjectPrototypeHasOwnProperty = object_base + 3
function_place built_in.ObjectPrototypeIsPrototypeOf = object_base + 4
function_place built_in.ObjectPrototypePropertyIsEnumerable = object_base + 5
function_place built_in.ObjectGetPrototypeOf = object_base + 6
function_place built_in.ObjectGetOwnPropertyDescriptor = object_base + 7
function_place built_in.ObjectGetOwnPropertyNames = object_base + 8
function_place built_in.ObjectCreate = object_base + 9
function_place built_in.ObjectDefineProperty = object_base + 10
function_place built_in.ObjectDefineProperties = object_base + 11
function_place built_in.ObjectSeal = object_base + 12
function_place built_in.ObjectFreeze = object_base + 13
function_place built_in.ObjectPreventExtensions = object_base + 14
function_place built_in.ObjectIsSealed = object_base + 15
function_place built_in.ObjectIsFrozen = object_base + 16
function_place built_in.ObjectIsExtensible = object_base + 17
function_place built_in.ObjectKeys = object_base + 18
function_place built_in.Function = function_base
function_place built_in.FunctionPrototypeCall = function_base + 1
function_place built_in.FunctionPrototypeApply = function_base + 2
function_place built_in.FunctionPrototypeBind = function_base + 3
function_place built_in.Array = array_base
function_place built_in.ArrayPrototypeToString = array_base + 2
function_place built_in.ArrayPrototypeConcat = array_base + 3
function_place built_in.ArrayPrototypeJoin = array_base + 4
function_place built_in.ArrayPrototypePop = array_base + 5
function_place built_in.ArrayPrototypePush = array_base + 6
function_place built_in.ArrayPrototypeReverse = array_base + 7
function_place built_in.ArrayPrototypeShift = array_base + 8
function_place built_in.ArrayPrototypeSlice = array_base + 9
function_place built_in.ArrayPrototypeSplice = array_base + 10
function_place built_in.ArrayPrototypeUnshift = array_base + 11
function_place built_in.ArrayPrototypeIndexOf = array_base + 12
function_place built_in.ArrayPrototypeLastIndexOf = array_base + 13
function_place built_in.ArrayPrototypeEvery = array_base + 14
function_place built_in.ArrayPrototypeSome = array_base + 15
function_place built_in.ArrayPrototypeForEach = array_base + 16
function_place built_in.ArrayPrototypeMap = array_base + 17
function_place built_in.ArrayPrototypeFilter = array_base + 18
function_place built_in.ArrayPrototypeReduce = array_base + 19
function_place built_in.ArrayIsArray = array_base + 20
function_place built_in.String = string_base
function_place built_in.StringPrototypeToString = string_base + 2
function_place built_in.StringPrototypeValueOf = string_base + 3
function_place built_in.StringPrototypeCharAt = string_base + 4
function_place built_in.StringPrototypeCharCodeAt = string_base + 5
function_place built_in.StringPrototypeConcat = string_base + 6
function_place built_in.StringPrototypeIndexOf = string_base + 7
function_place built_in.StringPrototypeLastIndexOf = string_base + 8
function_place built_in.StringPrototypeSlice = string_base + 9
function_place built_in.StringPrototypeSplit = string_base + 10
function_place built_in.StringPrototypeSubstring = string_base + 11
function_place built_in.StringPrototypeToLowerCase = string_base + 12
function_place built_in.StringPrototypeToUpperCase = string_base + 13
function_place built_in.StringPrototypeTrim = string_base + 14
function_place built_in.StringFromCharCode = string_base + 15
function_place built_in.Number = number_base
function_place built_in.NumberPrototypeToString = number_base + 2
function_place built_in.NumberPrototypeValueOf = number_base + 3
function_place built_in.Boolean = boolean_base
function_place built_in.BooleanPrototypeToString = boolean_base + 2
function_place built_in.BooleanPrototypeValueOf = boolean_base + 3
function_place built_in.MathAbs = math_base + 1
function_place built_in.MathCeil = math_base + 2
function_place built_in.MathFloor = math_base + 3
function_place built_in.MathMax = math_base + 4
function_place built_in.MathMin = math_base + 5
function_place built_in.MathPow = math_base + 6
function_place built_in.MathRound = math_base + 7
function_place built_in.Error = error_base
function_place built_in.TypeError = error_base + 2
function_place built_in.RangeError = error_base + 4
function_place built_in.ReferenceError = error_base + 6
function_place built_in.Node = node_base
function_place built_in.NodePrototypeInsertBefore = node_base + 2
function_place built_in.NodePrototypeReplaceChild = node_base + 3
function_place built_in.NodePrototypeRemoveChild = node_base + 4
function_place built_in.NodePrototypeAppendChild = node_base + 5
function_place built_in.NodePrototypeHasChildNodes = node_base + 6
function_place built_in.NodePrototypeGetAttribute = node_base + 7
function_place built_in.NodePrototypeSetAttribute = node_base + 8
function_place built_in.NodePrototypeRemoveAttribute = node_base + 9
function_place built_in.NodePrototypeHasAttribute = node_base + 10
function_place built_in.NodePrototypeAddEventListener = node_base + 11
function_place built_in.NodePrototypeRemoveEventListener = node_base + 12
function_place built_in.NodePrototypeDispatchEvent = node_base + 13
function_place built_in.NodePrototypeGetElementById = node_base + 14
function_place built_in.NodePrototypeCreateElement = node_base + 15
function_place built_in.NodePrototypeCreateTextNode = node_base + 16
function_place built_in.NodePrototypeCreateComment = node_base + 17
function_place built_in.NodePrototypeCreateEvent = node_base + 18
function_place built_in.Event = event_base
function_place built_in.EventPrototypeInitEvent = event_base + 2
function_place built_in.EventPrototypeStopPropagation = event_base + 3
function_place built_in.EventPrototypePreventDefault = event_base + 4
function_place built_in.IsNaN = global_base
function_place built_in.IsFinite = global_base + 1
function_place built_in.ParseInt = global_base + 2

abbrev pub function_at : BuiltIn → ObjId
function_at which = at_place (function_place which)

abbrev pub array_prototype : ObjId
array_prototype = at_place array_prototype_place

-- the prototype of errors of a kind (section 15.11)
abbrev pub error_prototype : ErrorKind → ObjId
error_prototype kind.Plain = at_place error_prototype_place
error_prototype kind.Type = at_place type_error_prototype_place
error_prototype kind.Range = at_place range_error_prototype_place
error_prototype kind.Reference = at_place reference_error_prototype_place

-- what texts, numbers and truth values inherit from
abbrev pub string_prototype : Option ObjId
string_prototype = Some (at_place string_prototype_place)

abbrev pub number_prototype : Option ObjId
number_prototype = Some (at_place number_prototype_place)

abbrev pub boolean_prototype : Option ObjId
boolean_prototype = Some (at_place boolean_prototype_place)

abbrev pub node_prototype : ObjId
node_prototype = at_place node_prototype_place

abbrev pub event_prototype : ObjId
event_prototype = at_place event_prototype_place

-- the object of the document is the first after the built-in ones: an ordinary one that the global object names
abbrev pub document : ObjId
document = at_place built_in_count
