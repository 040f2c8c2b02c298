-- Meaning: the functions that built-in objects hold, in order (section 15; DOM Level 2 Core and Events; HTML, timers).
use Rattle.std.specs.Prelude.{ℕ, List, [], ◌∷◌, codes}
use Rattle.js_values.specs.declared.built_in.BuiltIn.{BuiltIn}
use Rattle.js_values.specs.declared.built_in.BuiltIn.TheVariants as built_in

-- a function that an object holds: its name there, which it is, and its number of formals
abbrev pub Method : Type 0
Method = List ℕ × BuiltIn × ℕ

-- 15.2.4
abbrev pub object_prototype_functions : List Method
object_prototype_functions =
    (codes "toString", built_in.ObjectPrototypeToString, 0)
    ∷ (codes "valueOf", built_in.ObjectPrototypeValueOf, 0)
    ∷ (codes "hasOwnProperty", built_in.ObjectPrototypeHasOwnProperty, 1)
    ∷ (codes "isPrototypeOf", built_in.ObjectPrototypeIsPrototypeOf, 1)
    ∷ (codes "propertyIsEnumerable", built_in.ObjectPrototypePropertyIsEnumerable, 1) ∷ []

-- 15.2.3
abbrev pub object_functions : List Method
object_functions =
    (codes "getPrototypeOf", built_in.ObjectGetPrototypeOf, 1)
    ∷ (codes "getOwnPropertyDescriptor", built_in.ObjectGetOwnPropertyDescriptor, 2)
    ∷ (codes "getOwnPropertyNames", built_in.ObjectGetOwnPropertyNames, 1)
    ∷ (codes "create", built_in.ObjectCreate, 2)
    ∷ (codes "defineProperty", built_in.ObjectDefineProperty, 3)
    ∷ (codes "defineProperties", built_in.ObjectDefineProperties, 2)
    ∷ (codes "seal", built_in.ObjectSeal, 1)
    ∷ (codes "freeze", built_in.ObjectFreeze, 1)
    ∷ (codes "preventExtensions", built_in.ObjectPreventExtensions, 1)
    ∷ (codes "isSealed", built_in.ObjectIsSealed, 1)
    ∷ (codes "isFrozen", built_in.ObjectIsFrozen, 1)
    ∷ (codes "isExtensible", built_in.ObjectIsExtensible, 1)
    ∷ (codes "keys", built_in.ObjectKeys, 1) ∷ []

-- 15.3.4
abbrev pub function_prototype_functions : List Method
function_prototype_functions =
    (codes "call", built_in.FunctionPrototypeCall, 1)
    ∷ (codes "apply", built_in.FunctionPrototypeApply, 2)
    ∷ (codes "bind", built_in.FunctionPrototypeBind, 1) ∷ []

-- 15.4.4
abbrev pub array_prototype_functions : List Method
array_prototype_functions =
    (codes "toString", built_in.ArrayPrototypeToString, 0)
    ∷ (codes "concat", built_in.ArrayPrototypeConcat, 1)
    ∷ (codes "join", built_in.ArrayPrototypeJoin, 1)
    ∷ (codes "pop", built_in.ArrayPrototypePop, 0)
    ∷ (codes "push", built_in.ArrayPrototypePush, 1)
    ∷ (codes "reverse", built_in.ArrayPrototypeReverse, 0)
    ∷ (codes "shift", built_in.ArrayPrototypeShift, 0)
    ∷ (codes "slice", built_in.ArrayPrototypeSlice, 2)
    ∷ (codes "splice", built_in.ArrayPrototypeSplice, 2)
    ∷ (codes "unshift", built_in.ArrayPrototypeUnshift, 1)
    ∷ (codes "indexOf", built_in.ArrayPrototypeIndexOf, 1)
    ∷ (codes "lastIndexOf", built_in.ArrayPrototypeLastIndexOf, 1)
    ∷ (codes "every", built_in.ArrayPrototypeEvery, 1)
    ∷ (codes "some", built_in.ArrayPrototypeSome, 1)
    ∷ (codes "forEach", built_in.ArrayPrototypeForEach, 1)
    ∷ (codes "map", built_in.ArrayPrototypeMap, 1)
    ∷ (codes "filter", built_in.ArrayPrototypeFilter, 1)
    ∷ (codes "reduce", built_in.ArrayPrototypeReduce, 1) ∷ []

-- 15.4.3
abbrev pub array_functions : List Method
array_functions = (codes "isArray", built_in.ArrayIsArray, 1) ∷ []

-- 15.5.4
abbrev pub string_prototype_functions : List Method
string_prototype_functions =
    (codes "toString", built_in.StringPrototypeToString, 0)
    ∷ (codes "valueOf", built_in.StringPrototypeValueOf, 0)
    ∷ (codes "charAt", built_in.StringPrototypeCharAt, 1)
    ∷ (codes "charCodeAt", built_in.StringPrototypeCharCodeAt, 1)
    ∷ (codes "concat", built_in.StringPrototypeConcat, 1)
    ∷ (codes "indexOf", built_in.StringPrototypeIndexOf, 1)
    ∷ (codes "lastIndexOf", built_in.StringPrototypeLastIndexOf, 1)
    ∷ (codes "slice", built_in.StringPrototypeSlice, 2)
    ∷ (codes "split", built_in.StringPrototypeSplit, 2)
    ∷ (codes "substring", built_in.StringPrototypeSubstring, 2)
    ∷ (codes "toLowerCase", built_in.StringPrototypeToLowerCase, 0)
    ∷ (codes "toUpperCase", built_in.StringPrototypeToUpperCase, 0)
    ∷ (codes "trim", built_in.StringPrototypeTrim, 0) ∷ []

-- 15.5.3
abbrev pub string_functions : List Method
string_functions = (codes "fromCharCode", built_in.StringFromCharCode, 1) ∷ []

-- 15.7.4
abbrev pub number_prototype_functions : List Method
number_prototype_functions =
    (codes "toString", built_in.NumberPrototypeToString, 1)
    ∷ (codes "valueOf", built_in.NumberPrototypeValueOf, 0) ∷ []

-- 15.6.4
abbrev pub boolean_prototype_functions : List Method
boolean_prototype_functions =
    (codes "toString", built_in.BooleanPrototypeToString, 0)
    ∷ (codes "valueOf", built_in.BooleanPrototypeValueOf, 0) ∷ []

-- 15.8.2
abbrev pub math_functions : List Method
math_functions =
    (codes "abs", built_in.MathAbs, 1)
    ∷ (codes "ceil", built_in.MathCeil, 1)
    ∷ (codes "floor", built_in.MathFloor, 1)
    ∷ (codes "max", built_in.MathMax, 2)
    ∷ (codes "min", built_in.MathMin, 2)
    ∷ (codes "pow", built_in.MathPow, 2)
    ∷ (codes "round", built_in.MathRound, 1) ∷ []

abbrev pub console_functions : List Method
console_functions = (codes "log", built_in.ConsoleLog, 0) ∷ []

-- 15.1.2
abbrev pub global_functions : List Method
global_functions = (codes "isNaN", built_in.IsNaN, 1) ∷ (codes "isFinite", built_in.IsFinite, 1) ∷ (codes "parseInt", built_in.ParseInt, 2) ∷ []

-- HTML, timers
abbrev pub timer_functions : List Method
timer_functions =
    (codes "setTimeout", built_in.SetTimeout, 2)
    ∷ (codes "setInterval", built_in.SetInterval, 2)
    ∷ (codes "setIntervalFrom", built_in.SetIntervalFrom, 3)
    ∷ (codes "clearTimeout", built_in.ClearTimeout, 1)
    ∷ (codes "clearInterval", built_in.ClearInterval, 1) ∷ []

-- DOM Level 2 Core and Events
abbrev pub node_prototype_functions : List Method
node_prototype_functions =
    (codes "insertBefore", built_in.NodePrototypeInsertBefore, 2)
    ∷ (codes "replaceChild", built_in.NodePrototypeReplaceChild, 2)
    ∷ (codes "removeChild", built_in.NodePrototypeRemoveChild, 1)
    ∷ (codes "appendChild", built_in.NodePrototypeAppendChild, 1)
    ∷ (codes "hasChildNodes", built_in.NodePrototypeHasChildNodes, 0)
    ∷ (codes "getAttribute", built_in.NodePrototypeGetAttribute, 1)
    ∷ (codes "setAttribute", built_in.NodePrototypeSetAttribute, 2)
    ∷ (codes "removeAttribute", built_in.NodePrototypeRemoveAttribute, 1)
    ∷ (codes "hasAttribute", built_in.NodePrototypeHasAttribute, 1)
    ∷ (codes "addEventListener", built_in.NodePrototypeAddEventListener, 3)
    ∷ (codes "removeEventListener", built_in.NodePrototypeRemoveEventListener, 3)
    ∷ (codes "dispatchEvent", built_in.NodePrototypeDispatchEvent, 1)
    ∷ (codes "getElementById", built_in.NodePrototypeGetElementById, 1)
    ∷ (codes "createElement", built_in.NodePrototypeCreateElement, 1)
    ∷ (codes "createTextNode", built_in.NodePrototypeCreateTextNode, 1)
    ∷ (codes "createComment", built_in.NodePrototypeCreateComment, 1)
    ∷ (codes "createEvent", built_in.NodePrototypeCreateEvent, 1) ∷ []

abbrev pub event_prototype_functions : List Method
event_prototype_functions =
    (codes "initEvent", built_in.EventPrototypeInitEvent, 3)
    ∷ (codes "stopPropagation", built_in.EventPrototypeStopPropagation, 0)
    ∷ (codes "preventDefault", built_in.EventPrototypePreventDefault, 0) ∷ []
