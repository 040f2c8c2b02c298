-- Meaning: what built-in functions do, by families of those that act alike.
use Rattle.std.specs.Prelude.{ℕ, Bool, List}
use Rattle.js_values.specs.declared.built_in.BuiltIn.{BuiltIn}
use Rattle.js_values.specs.declared.built_in.BuiltIn.TheVariants as built_in
use Rattle.js_values.specs.declared.ids.ObjId.{ObjId}
use Rattle.js_values.specs.declared.line.LineKind.TheVariants.{Alert, Log}
use Rattle.js_values.specs.declared.throw.ErrorKind.TheVariants as kind
use Rattle.js_values.specs.declared.throw.Throw.TheVariants.{WrongArgument}
use Rattle.js_values.specs.declared.value.Value.{Value}
use Rattle.page_meaning.specs.declared.family.RowFamily.{RowFamily}
use Rattle.page_meaning.specs.declared.family.RowFamily.TheVariants as family
use Rattle.page_meaning.specs.Act.{Act, Calls, bind, done, also, asking}
use Rattle.page_meaning.specs.Convert.{text_in, to_text}
use Rattle.page_meaning.specs.Elements.{length_of, on_list}
use Rattle.page_meaning.specs.Errors.{raise}
use Rattle.page_meaning.specs.Dispatch.{dispatch_row}
use Rattle.page_meaning.specs.NodeRows.{node_row}
use Rattle.page_meaning.specs.TimerRows.{timer_row}
use Rattle.page_meaning.specs.FunctionRows.{apply_function, bind_function, call_function, list_text}
use Rattle.page_meaning.specs.Lines.{log_text, log_texts}
use Rattle.page_meaning.specs.ListRows as list
use Rattle.page_meaning.specs.ObjectRows as object
use Rattle.page_meaning.specs.ObjectRows.{argument, on_object, telling}
use Rattle.page_meaning.specs.Primitives.{put_line}
use Rattle.page_meaning.specs.TextRows.{text_row}
use Rattle.page_meaning.specs.ValueRows.{error_from, is_array, list_from, truth_from, truth_itself, truth_text}
use Rattle.page_meaning.specs.VisitRows.{visit_row}

-- at once, on objects and values: whether it is constructed, which it is, `this` and the arguments
abbrev pub object_row : Calls → Bool → BuiltIn → Value → List Value → Act
object_row calls construct built_in.Alert this vs = bind (put_line Alert (λ s. log_text s (argument vs 0))) (λ _. done)
object_row calls construct built_in.ConsoleLog this vs = bind (put_line Log (log_texts vs)) (λ _. done)
object_row calls construct built_in.Object this vs = object.object_from (argument vs 0)
object_row calls construct built_in.ObjectGetPrototypeOf this vs = on_object (argument vs 0) object.get_prototype
object_row calls construct built_in.ObjectGetOwnPropertyDescriptor this vs = on_object (argument vs 0) (object.get_descriptor calls (argument vs 1))
object_row calls construct built_in.ObjectGetOwnPropertyNames this vs = on_object (argument vs 0) object.own_names
object_row calls construct built_in.ObjectCreate this vs = object.create (argument vs 0) (argument vs 1)
object_row calls construct built_in.ObjectDefineProperty this vs = on_object (argument vs 0) (object.define_property calls (argument vs 1) (argument vs 2))
object_row calls construct built_in.ObjectDefineProperties this vs = on_object (argument vs 0) (object.define_properties (argument vs 1))
object_row calls construct built_in.ObjectSeal this vs = on_object (argument vs 0) (object.change_all object.sealing)
object_row calls construct built_in.ObjectFreeze this vs = on_object (argument vs 0) (object.change_all object.freezing)
object_row calls construct built_in.ObjectPreventExtensions this vs = on_object (argument vs 0) object.prevent
object_row calls construct built_in.ObjectIsSealed this vs = on_object (argument vs 0) (telling object.is_sealed)
object_row calls construct built_in.ObjectIsFrozen this vs = on_object (argument vs 0) (telling object.is_frozen)
object_row calls construct built_in.ObjectIsExtensible this vs = on_object (argument vs 0) (telling (λ o. o.extensible))
object_row calls construct built_in.ObjectKeys this vs = on_object (argument vs 0) object.own_enumerable_names
object_row calls construct built_in.ObjectPrototypeToString this vs = object.tagged this
object_row calls construct built_in.ObjectPrototypeValueOf this vs = object.value_itself this
object_row calls construct built_in.ObjectPrototypeHasOwnProperty this vs = also (to_text calls (argument vs 0)) (λ x. object.has_own this (text_in x))
object_row calls construct built_in.ObjectPrototypeIsPrototypeOf this vs = object.is_prototype_of this (argument vs 0)
object_row calls construct built_in.ObjectPrototypePropertyIsEnumerable this vs = also (to_text calls (argument vs 0)) (λ x. object.lists_own this (text_in x))
object_row calls construct built_in.FunctionPrototype this vs = done
object_row calls construct built_in.Array this vs = list_from vs
object_row calls construct built_in.ArrayIsArray this vs = is_array (argument vs 0)
object_row calls construct built_in.Boolean this vs = truth_from construct (argument vs 0)
object_row calls construct built_in.BooleanPrototypeToString this vs = truth_text this
object_row calls construct built_in.BooleanPrototypeValueOf this vs = truth_itself this
object_row calls construct built_in.Error this vs = error_from calls kind.Plain (argument vs 0)
object_row calls construct built_in.TypeError this vs = error_from calls kind.Type (argument vs 0)
object_row calls construct built_in.RangeError this vs = error_from calls kind.Range (argument vs 0)
object_row calls construct built_in.ReferenceError this vs = error_from calls kind.Reference (argument vs 0)
object_row calls construct built_in.Function this vs = raise WrongArgument
object_row calls construct built_in.Node this vs = raise WrongArgument
object_row calls construct built_in.Event this vs = raise WrongArgument
object_row calls construct which this vs = raise WrongArgument

-- by a call of another function, or it makes one
abbrev pub function_row : Calls → BuiltIn → Value → List Value → Act
function_row calls built_in.FunctionPrototypeCall this vs = call_function calls this vs
function_row calls built_in.FunctionPrototypeApply this vs = apply_function calls this vs
function_row calls built_in.FunctionPrototypeBind this vs = bind_function this vs
function_row calls built_in.ArrayPrototypeToString this vs = on_list this (list_text calls)
function_row calls which this vs = raise WrongArgument

-- on an array of this length, at once but for index turns
abbrev pub list_row_on : Calls → BuiltIn → List Value → ObjId → ℕ → Act
list_row_on calls built_in.ArrayPrototypeConcat vs at n = list.concat at vs
list_row_on calls built_in.ArrayPrototypeJoin vs at n = list.join calls at n vs
list_row_on calls built_in.ArrayPrototypePop vs at n = list.pop at n
list_row_on calls built_in.ArrayPrototypePush vs at n = list.push at n vs
list_row_on calls built_in.ArrayPrototypeReverse vs at n = list.reverse at n
list_row_on calls built_in.ArrayPrototypeShift vs at n = list.shift at n
list_row_on calls built_in.ArrayPrototypeSlice vs at n = list.slice calls at n vs
list_row_on calls built_in.ArrayPrototypeSplice vs at n = list.splice calls at n vs
list_row_on calls built_in.ArrayPrototypeUnshift vs at n = list.unshift at n vs
list_row_on calls built_in.ArrayPrototypeIndexOf vs at n = list.index_of calls at n vs
list_row_on calls built_in.ArrayPrototypeLastIndexOf vs at n = list.last_index_of calls at n vs
list_row_on calls which vs at n = raise WrongArgument

abbrev pub list_row : Calls → BuiltIn → Value → List Value → Act
list_row calls which this vs = on_list this (λ at. asking (length_of at) (list_row_on calls which vs at))

-- the family of a built-in function, told here alone
abbrev pub row_family : BuiltIn → RowFamily
row_family built_in.FunctionPrototypeCall = family.Function
row_family built_in.FunctionPrototypeApply = family.Function
row_family built_in.FunctionPrototypeBind = family.Function
row_family built_in.ArrayPrototypeToString = family.Function
row_family built_in.ArrayPrototypeConcat = family.List
row_family built_in.ArrayPrototypeJoin = family.List
row_family built_in.ArrayPrototypePop = family.List
row_family built_in.ArrayPrototypePush = family.List
row_family built_in.ArrayPrototypeReverse = family.List
row_family built_in.ArrayPrototypeShift = family.List
row_family built_in.ArrayPrototypeSlice = family.List
row_family built_in.ArrayPrototypeSplice = family.List
row_family built_in.ArrayPrototypeUnshift = family.List
row_family built_in.ArrayPrototypeIndexOf = family.List
row_family built_in.ArrayPrototypeLastIndexOf = family.List
row_family built_in.ArrayPrototypeEvery = family.Visit
row_family built_in.ArrayPrototypeSome = family.Visit
row_family built_in.ArrayPrototypeForEach = family.Visit
row_family built_in.ArrayPrototypeMap = family.Visit
row_family built_in.ArrayPrototypeFilter = family.Visit
row_family built_in.ArrayPrototypeReduce = family.Visit
row_family built_in.IsNaN = family.Text
row_family built_in.IsFinite = family.Text
row_family built_in.ParseInt = family.Text
row_family built_in.String = family.Text
row_family built_in.StringFromCharCode = family.Text
row_family built_in.StringPrototypeToString = family.Text
row_family built_in.StringPrototypeValueOf = family.Text
row_family built_in.StringPrototypeCharAt = family.Text
row_family built_in.StringPrototypeCharCodeAt = family.Text
row_family built_in.StringPrototypeConcat = family.Text
row_family built_in.StringPrototypeIndexOf = family.Text
row_family built_in.StringPrototypeLastIndexOf = family.Text
row_family built_in.StringPrototypeSlice = family.Text
row_family built_in.StringPrototypeSplit = family.Text
row_family built_in.StringPrototypeSubstring = family.Text
row_family built_in.StringPrototypeToLowerCase = family.Text
row_family built_in.StringPrototypeToUpperCase = family.Text
row_family built_in.StringPrototypeTrim = family.Text
row_family built_in.Number = family.Text
row_family built_in.NumberPrototypeToString = family.Text
row_family built_in.NumberPrototypeValueOf = family.Text
row_family built_in.MathAbs = family.Text
row_family built_in.MathCeil = family.Text
row_family built_in.MathFloor = family.Text
row_family built_in.MathMax = family.Text
row_family built_in.MathMin = family.Text
row_family built_in.MathPow = family.Text
row_family built_in.MathRound = family.Text
row_family built_in.NodePrototypeInsertBefore = family.Node
row_family built_in.NodePrototypeReplaceChild = family.Node
row_family built_in.NodePrototypeRemoveChild = family.Node
row_family built_in.NodePrototypeAppendChild = family.Node
row_family built_in.NodePrototypeHasChildNodes = family.Node
row_family built_in.NodePrototypeGetAttribute = family.Node
row_family built_in.NodePrototypeSetAttribute = family.Node
row_family built_in.NodePrototypeRemoveAttribute = family.Node
row_family built_in.NodePrototypeHasAttribute = family.Node
row_family built_in.NodePrototypeAddEventListener = family.Node
row_family built_in.NodePrototypeRemoveEventListener = family.Node
row_family built_in.NodePrototypeDispatchEvent = family.Dispatch
row_family built_in.NodePrototypeGetElementById = family.Node
row_family built_in.NodePrototypeCreateElement = family.Node
row_family built_in.NodePrototypeCreateTextNode = family.Node
row_family built_in.NodePrototypeCreateComment = family.Node
row_family built_in.NodePrototypeCreateEvent = family.Node
row_family built_in.EventPrototypeInitEvent = family.Node
row_family built_in.EventPrototypeStopPropagation = family.Node
row_family built_in.EventPrototypePreventDefault = family.Node
row_family built_in.SetTimeout = family.Timer
row_family built_in.SetInterval = family.Timer
row_family built_in.SetIntervalFrom = family.Timer
row_family built_in.ClearTimeout = family.Timer
row_family built_in.ClearInterval = family.Timer
row_family built_in.Alert = family.Object
row_family built_in.ConsoleLog = family.Object
row_family built_in.Object = family.Object
row_family built_in.ObjectGetPrototypeOf = family.Object
row_family built_in.ObjectGetOwnPropertyDescriptor = family.Object
row_family built_in.ObjectGetOwnPropertyNames = family.Object
row_family built_in.ObjectCreate = family.Object
row_family built_in.ObjectDefineProperty = family.Object
row_family built_in.ObjectDefineProperties = family.Object
row_family built_in.ObjectSeal = family.Object
row_family built_in.ObjectFreeze = family.Object
row_family built_in.ObjectPreventExtensions = family.Object
row_family built_in.ObjectIsSealed = family.Object
row_family built_in.ObjectIsFrozen = family.Object
row_family built_in.ObjectIsExtensible = family.Object
row_family built_in.ObjectKeys = family.Object
row_family built_in.ObjectPrototypeToString = family.Object
row_family built_in.ObjectPrototypeValueOf = family.Object
row_family built_in.ObjectPrototypeHasOwnProperty = family.Object
row_family built_in.ObjectPrototypeIsPrototypeOf = family.Object
row_family built_in.ObjectPrototypePropertyIsEnumerable = family.Object
row_family built_in.FunctionPrototype = family.Object
row_family built_in.Array = family.Object
row_family built_in.ArrayIsArray = family.Object
row_family built_in.Boolean = family.Object
row_family built_in.BooleanPrototypeToString = family.Object
row_family built_in.BooleanPrototypeValueOf = family.Object
row_family built_in.Error = family.Object
row_family built_in.TypeError = family.Object
row_family built_in.RangeError = family.Object
row_family built_in.ReferenceError = family.Object
row_family built_in.Function = family.Object
row_family built_in.Node = family.Object
row_family built_in.Event = family.Object

abbrev pub row_in : RowFamily → Calls → Bool → BuiltIn → Value → List Value → Act
row_in family.Object calls construct which this vs = object_row calls construct which this vs
row_in family.Function calls construct which this vs = function_row calls which this vs
row_in family.List calls construct which this vs = list_row calls which this vs
row_in family.Visit calls construct which this vs = visit_row calls which this vs
row_in family.Text calls construct which this vs = text_row calls construct which this vs
row_in family.Node calls construct which this vs = node_row calls which this vs
row_in family.Timer calls construct which this vs = timer_row calls which vs
row_in family.Dispatch calls construct which this vs = dispatch_row calls this vs

-- what a built-in function does when it is called or constructed
abbrev pub row_of : Calls → Bool → BuiltIn → Value → List Value → Act
row_of calls construct which this vs = row_in (row_family which) calls construct which this vs
