-- The built-in objects are by age, each function at its place.
use Rattle.std.specs.Prelude.{refl}
use Rattle.js_values.specs.declared.built_in.BuiltIn.{BuiltIn}
use Rattle.js_values.specs.declared.built_in.BuiltIn.TheVariants as built_in
use Rattle.page_meaning.specs.Ages.{AreByAge, AreCounted, IsPlaced}
use Rattle.page_meaning.specs.Places.{node_prototype_place, event_prototype_place, built_in_count, array_prototype_place, string_prototype_place, number_prototype_place, boolean_prototype_place, math_place, console_place, error_prototype_place, type_error_prototype_place, range_error_prototype_place, reference_error_prototype_place, function_place}

pub ages_walked : AreByAge
unfolding node_prototype_place event_prototype_place built_in_count array_prototype_place string_prototype_place number_prototype_place boolean_prototype_place math_place console_place error_prototype_place type_error_prototype_place range_error_prototype_place reference_error_prototype_place function_place
ages_walked = refl

pub built_ins_counted : AreCounted
unfolding node_prototype_place event_prototype_place built_in_count array_prototype_place string_prototype_place number_prototype_place boolean_prototype_place math_place console_place error_prototype_place type_error_prototype_place range_error_prototype_place reference_error_prototype_place function_place
built_ins_counted = refl

pub functions_placed : (which : BuiltIn) → IsPlaced which
unfolding node_prototype_place event_prototype_place built_in_count array_prototype_place string_prototype_place number_prototype_place boolean_prototype_place math_place console_place error_prototype_place type_error_prototype_place range_error_prototype_place reference_error_prototype_place function_place
functions_placed built_in.IsNaN = refl
functions_placed built_in.IsFinite = refl
functions_placed built_in.ParseInt = refl
functions_placed built_in.Alert = refl
functions_placed built_in.SetTimeout = refl
functions_placed built_in.SetInterval = refl
functions_placed built_in.SetIntervalFrom = refl
functions_placed built_in.ClearTimeout = refl
functions_placed built_in.ClearInterval = refl
functions_placed built_in.ConsoleLog = refl
functions_placed built_in.Object = refl
functions_placed built_in.ObjectGetPrototypeOf = refl
functions_placed built_in.ObjectGetOwnPropertyDescriptor = refl
functions_placed built_in.ObjectGetOwnPropertyNames = refl
functions_placed built_in.ObjectCreate = refl
functions_placed built_in.ObjectDefineProperty = refl
functions_placed built_in.ObjectDefineProperties = refl
functions_placed built_in.ObjectSeal = refl
functions_placed built_in.ObjectFreeze = refl
functions_placed built_in.ObjectPreventExtensions = refl
functions_placed built_in.ObjectIsSealed = refl
functions_placed built_in.ObjectIsFrozen = refl
functions_placed built_in.ObjectIsExtensible = refl
functions_placed built_in.ObjectKeys = refl
functions_placed built_in.ObjectPrototypeToString = refl
functions_placed built_in.ObjectPrototypeValueOf = refl
functions_placed built_in.ObjectPrototypeHasOwnProperty = refl
functions_placed built_in.ObjectPrototypeIsPrototypeOf = refl
functions_placed built_in.ObjectPrototypePropertyIsEnumerable = refl
functions_placed built_in.Function = refl
functions_placed built_in.FunctionPrototype = refl
functions_placed built_in.FunctionPrototypeCall = refl
functions_placed built_in.FunctionPrototypeApply = refl
functions_placed built_in.FunctionPrototypeBind = refl
functions_placed built_in.Array = refl
functions_placed built_in.ArrayIsArray = refl
functions_placed built_in.ArrayPrototypeToString = refl
functions_placed built_in.ArrayPrototypeConcat = refl
functions_placed built_in.ArrayPrototypeJoin = refl
functions_placed built_in.ArrayPrototypePop = refl
functions_placed built_in.ArrayPrototypePush = refl
functions_placed built_in.ArrayPrototypeReverse = refl
functions_placed built_in.ArrayPrototypeShift = refl
functions_placed built_in.ArrayPrototypeSlice = refl
functions_placed built_in.ArrayPrototypeSplice = refl
functions_placed built_in.ArrayPrototypeUnshift = refl
functions_placed built_in.ArrayPrototypeIndexOf = refl
functions_placed built_in.ArrayPrototypeLastIndexOf = refl
functions_placed built_in.ArrayPrototypeEvery = refl
functions_placed built_in.ArrayPrototypeSome = refl
functions_placed built_in.ArrayPrototypeForEach = refl
functions_placed built_in.ArrayPrototypeMap = refl
functions_placed built_in.ArrayPrototypeFilter = refl
functions_placed built_in.ArrayPrototypeReduce = refl
functions_placed built_in.String = refl
functions_placed built_in.StringFromCharCode = refl
functions_placed built_in.StringPrototypeToString = refl
functions_placed built_in.StringPrototypeValueOf = refl
functions_placed built_in.StringPrototypeCharAt = refl
functions_placed built_in.StringPrototypeCharCodeAt = refl
functions_placed built_in.StringPrototypeConcat = refl
functions_placed built_in.StringPrototypeIndexOf = refl
functions_placed built_in.StringPrototypeLastIndexOf = refl
functions_placed built_in.StringPrototypeSlice = refl
functions_placed built_in.StringPrototypeSplit = refl
functions_placed built_in.StringPrototypeSubstring = refl
functions_placed built_in.StringPrototypeToLowerCase = refl
functions_placed built_in.StringPrototypeToUpperCase = refl
functions_placed built_in.StringPrototypeTrim = refl
functions_placed built_in.Boolean = refl
functions_placed built_in.BooleanPrototypeToString = refl
functions_placed built_in.BooleanPrototypeValueOf = refl
functions_placed built_in.Number = refl
functions_placed built_in.NumberPrototypeToString = refl
functions_placed built_in.NumberPrototypeValueOf = refl
functions_placed built_in.MathAbs = refl
functions_placed built_in.MathCeil = refl
functions_placed built_in.MathFloor = refl
functions_placed built_in.MathMax = refl
functions_placed built_in.MathMin = refl
functions_placed built_in.MathPow = refl
functions_placed built_in.MathRound = refl
functions_placed built_in.Error = refl
functions_placed built_in.TypeError = refl
functions_placed built_in.RangeError = refl
functions_placed built_in.ReferenceError = refl
functions_placed built_in.Node = refl
functions_placed built_in.NodePrototypeInsertBefore = refl
functions_placed built_in.NodePrototypeReplaceChild = refl
functions_placed built_in.NodePrototypeRemoveChild = refl
functions_placed built_in.NodePrototypeAppendChild = refl
functions_placed built_in.NodePrototypeHasChildNodes = refl
functions_placed built_in.NodePrototypeGetAttribute = refl
functions_placed built_in.NodePrototypeSetAttribute = refl
functions_placed built_in.NodePrototypeRemoveAttribute = refl
functions_placed built_in.NodePrototypeHasAttribute = refl
functions_placed built_in.NodePrototypeAddEventListener = refl
functions_placed built_in.NodePrototypeRemoveEventListener = refl
functions_placed built_in.NodePrototypeDispatchEvent = refl
functions_placed built_in.NodePrototypeGetElementById = refl
functions_placed built_in.NodePrototypeCreateElement = refl
functions_placed built_in.NodePrototypeCreateTextNode = refl
functions_placed built_in.NodePrototypeCreateComment = refl
functions_placed built_in.NodePrototypeCreateEvent = refl
functions_placed built_in.Event = refl
functions_placed built_in.EventPrototypeInitEvent = refl
functions_placed built_in.EventPrototypeStopPropagation = refl
functions_placed built_in.EventPrototypePreventDefault = refl
