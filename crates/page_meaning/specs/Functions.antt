-- Meaning: functions of a page, how they are made and entered (sections 10.4.3, 10.5, 13 and 13.2).
use Rattle.std.specs.Prelude.{refl, ℕ, ◌+◌, true, false, ◌&&◌, List, [], ◌∷◌, ◌++◌, length, Option, Some, None, is_some, codes, if◌then◌else◌}
use Rattle.code_table.specs.Declarations.{formals_of, functions_of, variables_of}
use Rattle.js_core.specs.Tree as tree
use Rattle.js_core.specs.Tree.{code}
use Rattle.js_values.specs.declared.ids.EnvId.{EnvId}
use Rattle.js_values.specs.declared.ids.ObjId.{ObjId}
use Rattle.js_values.specs.declared.throw.Throw.TheVariants.{CannotDefine}
use Rattle.js_values.specs.declared.value.Value.{Value}
use Rattle.js_values.specs.declared.value.Value.TheVariants.{Undefined, Object}
use Rattle.object_heap.specs.declared.object.Class.TheVariants.{Plain, Page}
use Rattle.object_heap.specs.declared.property.Change.{Change}
use Rattle.object_heap.specs.declared.property.Prop.{Prop}
use Rattle.object_heap.specs.Chain.{object_at}
use Rattle.object_heap.specs.Define.{length_name, number}
use Rattle.object_heap.specs.Environment.{Bound, value_of}
use Rattle.object_heap.specs.Heap.{IsFit}
use Rattle.object_heap.specs.Laws.{Step, makes}
use Rattle.object_heap.specs.Object as heap
use Rattle.object_heap.specs.Object.{whole_object}
use Rattle.object_heap.specs.Property.{fixed, hidden, lasting, own_property}
use Rattle.page_meaning.specs.declared.signal.Signal.{Signal}
use Rattle.page_meaning.specs.declared.signal.Signal.TheVariants.{Value as Val, Thrown, Return}
use Rattle.page_meaning.specs.Act.{Act, ActOf, ret, bind, give, done, nothing, also, asking, choose}
use Rattle.page_meaning.specs.Errors.{raise, unless}
use Rattle.page_meaning.specs.Names.{Here}
use Rattle.page_meaning.specs.Places.{at_place, window, object_prototype, function_prototype}
use Rattle.page_meaning.specs.Primitives.{bind_name, define_at, does, make_environment, next_place}
use Rattle.page_meaning.specs.Properties.{put_in}
use Rattle.page_meaning.specs.Store.{Store}
use Rattle.object_heap.proofs.Callers.{ordinary_fit, one_name, two_names}

-- a function object, whose `prototype` is at the place
abbrev pub function_object : tree.Code → Option EnvId → ℕ → heap.Object
function_object c env p =
    whole_object (Page c env) (Some function_prototype)
    ((length_name, fixed (number (length (formals_of c)))) ∷ (codes "prototype", lasting (Object (at_place p))) ∷ [])

pub function_fit : (c : tree.Code) (env : Option EnvId) (p : ℕ) → IsFit (function_object c env p)
function_fit c env p =
    ordinary_fit (Page c env) (Some function_prototype)
    ((length_name, fixed (number (length (formals_of c)))) ∷ (codes "prototype", lasting (Object (at_place p))) ∷ []) refl
    (two_names length_name (fixed (number (length (formals_of c)))) (codes "prototype") (lasting (Object (at_place p))) refl)

-- the fresh `prototype` of the function at the place
abbrev pub prototype_object : ℕ → heap.Object
prototype_object f = whole_object Plain (Some object_prototype) ((codes "constructor", hidden (Object (at_place f))) ∷ [])

pub prototype_fit : (f : ℕ) → IsFit (prototype_object f)
prototype_fit f =
    ordinary_fit Plain (Some object_prototype) ((codes "constructor", hidden (Object (at_place f))) ∷ []) refl
    (one_name (codes "constructor") (hidden (Object (at_place f))))

abbrev pub function_steps : tree.Code → Option EnvId → ℕ → List Step
function_steps c env k =
    makes (function_object c env (k + 1)) (function_fit c env (k + 1)) ∷ makes (prototype_object k) (prototype_fit k) ∷ []

-- a function, and then its `prototype`, which is younger (13.2)
abbrev pub make_function : tree.Code → Option EnvId → ActOf ObjId
make_function c env = does next_place (λ h. function_steps c env (length h.objects)) (λ h. (refl, (refl, tt)))

abbrev pub object_of : ObjId → Act
object_of k = give (Object k)

-- a function expression (13). Its own name is bound in an environment round it, also where nothing uses the name
abbrev pub close_over : tree.Code → Option EnvId → Act
close_over (code None formals body) env = bind (make_function (code None formals body) env) object_of
close_over (code (Some x) formals body) env =
    bind (make_environment env ((x, Undefined) ∷ []))
    (λ e. bind (make_function (code (Some x) formals body) (Some e)) (λ k. bind (bind_name e x (Object k)) (λ _. give (Object k))))

-- the formals with the arguments, or undefined; further arguments are dropped
abbrev pub with_arguments : List (List ℕ) → List Value → Bound
with_arguments [] vs = []
with_arguments (x ∷ xs) [] = (x, Undefined) ∷ with_arguments xs []
with_arguments (x ∷ xs) (v ∷ vs) = (x, v) ∷ with_arguments xs vs

-- function declarations, each by its name and its code, which is held without the name
abbrev pub Declared : Type 0
Declared = List (Option (List ℕ) × tree.Code)

abbrev pub function_names : Declared → List (List ℕ)
function_names [] = []
function_names ((None, c) ∷ cs) = function_names cs
function_names ((Some x, c) ∷ cs) = x ∷ function_names cs

-- each name that is not bound is bound to undefined
abbrev pub with_names : Bound → List (List ℕ) → Bound
with_names b [] = b
with_names b (x ∷ xs) = with_names (if is_some (value_of b x) then b else b ++ (x, Undefined) ∷ []) xs

-- what a function's environment binds at first: formals, declared functions, variables
abbrev pub entry_names : List (List ℕ) → tree.Stmts → List Value → Bound
entry_names formals body vs = with_names (with_names (with_arguments formals vs) (function_names (functions_of body))) (variables_of body)

-- the declared functions, in order, each bound to its name (10.5 step 5)
abbrev pub declare_functions : EnvId → Declared → Act
declare_functions e [] = done
declare_functions e ((None, c) ∷ cs) = declare_functions e cs
declare_functions e ((Some x, c) ∷ cs) =
    bind (make_function c (Some e)) (λ k. bind (bind_name e x (Object k)) (λ _. declare_functions e cs))

-- what a call makes of the end of the function's body
abbrev pub call_end : Signal → Signal
call_end (Return v) = Val v
call_end (Thrown v) = Thrown v
call_end s = nothing

-- the body runs in a new environment (10.4.3)
abbrev pub enter : (Here → tree.Stmts → Act) → tree.Code → Option EnvId → Value → List Value → Act
enter run (code x formals body) env this vs =
    bind (make_environment env (entry_names formals body vs))
    (λ e. also (declare_functions e (functions_of body)) (λ _. bind (run (record { env = Some e; this = this }) body) (λ s. ret (call_end s))))

-- a global property of a script, new or that of an earlier script (10.5 step 8)
abbrev pub script_property : Value → Change
script_property v = record { value = Some v; writable = Some true; enumerable = Some true; configurable = Some false }

abbrev pub define_global : List ℕ → Act
define_global x = unless (define_at window x (script_property Undefined)) done

-- the global object takes a declared function, where it can (10.5 step 5.e)
abbrev pub take_function : List ℕ → Option Prop → Act
take_function x None = define_global x
take_function x (Some p) = choose p.configurable (define_global x) (choose (p.writable && p.enumerable) done (raise CannotDefine))

abbrev pub own_global : List ℕ → Store → Option Prop
own_global x s = own_property (object_at s.heap.objects window.0).props x

-- the script's functions, each made before its name is judged, and put
abbrev pub declare_globals : Declared → Act
declare_globals [] = done
declare_globals ((None, c) ∷ cs) = declare_globals cs
declare_globals ((Some x, c) ∷ cs) =
    bind (make_function c None)
    (λ k. also (asking (own_global x) (take_function x)) (λ _. also (put_in window x (Object k)) (λ _. declare_globals cs)))

abbrev pub take_variable : List ℕ → Option Prop → Act
take_variable x None = define_global x
take_variable x (Some p) = done

-- the script's variables that the global object does not have
abbrev pub global_variables : List (List ℕ) → Act
global_variables [] = done
global_variables (x ∷ xs) = also (asking (own_global x) (take_variable x)) (λ _. global_variables xs)
