-- Functions of a page, how they are made and entered.
use Rattle.std.proofs.Common.{ℕ, Bool, true, false, List, []}
use Rattle.std.specs.Prelude.{◌∷◌, ◌++◌, ◌+◌, ◌≤◌, ◌&&◌, Option, Some, None, codes, if◌then◌else◌, is_some, length, refl}
use Rattle.js_core.specs.Tree as tree
use Rattle.js_core.specs.Tree.{code}
use Rattle.code_table.specs.Declarations.{formals_of, functions_of, variables_of}
use Rattle.js_core.specs.Whole.{largest}
use Rattle.js_values.specs.declared.ids.EnvId.{EnvId}
use Rattle.js_values.specs.declared.throw.Throw.TheVariants.{CannotDefine}
use Rattle.js_values.specs.declared.value.Value.{Value}
use Rattle.js_values.specs.declared.value.Value.TheVariants.{Undefined, Object}
use Rattle.object_heap.specs.Define.{length_name}
use Rattle.object_heap.specs.Environment.{Bound, value_of}
use Rattle.object_heap.specs.declared.property.Prop.{Prop}
use Rattle.page_meaning.specs.Act.{Act}
use Rattle.page_meaning.specs.Functions.{Declared, call_end, close_over, declare_functions, declare_globals, define_global, enter, entry_names, function_names, function_object, function_steps, global_variables, make_function, own_global, prototype_object, script_property, take_function, take_variable, with_arguments, with_names}
use Rattle.page_meaning.specs.Names.{Here}
use Rattle.page_meaning.specs.Places.{window}
use Rattle.page_meaning.specs.declared.signal.Signal.{Signal}
use Rattle.page_meaning.specs.declared.signal.Signal.TheVariants as signal
use Rattle.literal_values.proofs.Callers.{functions_literal, names_joined, text_seen}
use Rattle.literal_values.specs.Objects.{LiteralNames, LiteralObject}
use Rattle.literal_values.specs.Trees.{LiteralCode, LiteralDeclared, LiteralStmts}
use Rattle.literal_values.specs.Values.{AreBounded, AreTexts, IsBounded, IsText}
use Rattle.written_pages.proofs.Acts.{also_is, asking_any, bind_is, choose_is, done_is, give_is, ret_is}
use Rattle.written_pages.proofs.Primitives.{bind_name_is, define_at_is, does_is, make_environment_is, raise_is, unless_is}
use Rattle.written_pages.proofs.Properties.{put_in_is}
use Rattle.written_pages.specs.Acts.{ActIs, Any, HereIs, SignalIs, Writes}

-- ---- functions that are made

few_formals : (c : tree.Code) → LiteralCode c → length (formals_of c) ≤ largest
few_formals (code x formals body) h = h.2

function_literal : (c : tree.Code) (env : Option EnvId) (p : ℕ) → LiteralCode c → LiteralObject (function_object c env p)
function_literal c env p h = record { class = h; props = (text_seen length_name refl, few_formals c h, (text_seen (codes "prototype") refl, tt, tt)) }

prototype_literal : (f : ℕ) → LiteralObject (prototype_object f)
prototype_literal f = record { class = tt; props = (text_seen (codes "constructor") refl, tt, tt) }

pub make_function_is : (c : tree.Code) (env : Option EnvId) → LiteralCode c → ActIs Any (make_function c env)
make_function_is c env h =
    does_is Any _ (λ g. function_steps c env (length g.objects)) _ (λ g l. tt)
    (λ g. (function_literal c env (length g.objects + 1) h, (prototype_literal (length g.objects), tt)))

pub close_over_is : (c : tree.Code) (env : Option EnvId) → LiteralCode c → Writes (close_over c env)
close_over_is (code None formals body) env h = bind_is (make_function_is (code None formals body) env h) (λ k p. give_is (Object k) tt)
close_over_is (code (Some x) formals body) env h =
    bind_is (make_environment_is env ((x, Undefined) ∷ []) (tt, tt)) (λ e p.
    bind_is (make_function_is (code (Some x) formals body) (Some e) h) (λ k q.
    bind_is (bind_name_is e x (Object k) tt) (λ u r. give_is (Object k) tt)))

-- ---- what a function binds at first

arguments_literal : (xs : List (List ℕ)) (vs : List Value) → AreBounded vs → LiteralNames (with_arguments xs vs)
arguments_literal [] vs h = tt
arguments_literal (x ∷ xs) [] h = (tt, arguments_literal xs [] tt)
arguments_literal (x ∷ xs) (v ∷ vs) h = (h.0, arguments_literal xs vs h.1)

one_name_more : (there : Bool) (b : Bound) (x : List ℕ) → LiteralNames b → LiteralNames (if there then b else b ++ (x, Undefined) ∷ [])
one_name_more true b x h = h
one_name_more false b x h = names_joined b ((x, Undefined) ∷ []) h (tt, tt)

names_literal : (xs : List (List ℕ)) (b : Bound) → LiteralNames b → LiteralNames (with_names b xs)
names_literal [] b h = h
names_literal (x ∷ xs) b h = names_literal xs _ (one_name_more (is_some (value_of b x)) b x h)

entry_literal : (formals : List (List ℕ)) (body : tree.Stmts) (vs : List Value) → AreBounded vs → LiteralNames (entry_names formals body vs)
entry_literal formals body vs h = names_literal (variables_of body) _ (names_literal (function_names (functions_of body)) _ (arguments_literal formals vs h))

pub declare_functions_is : (e : EnvId) (cs : Declared) → LiteralDeclared cs → Writes (declare_functions e cs)
declare_functions_is e [] h = done_is
declare_functions_is e ((None, c) ∷ cs) h = declare_functions_is e cs h.2
declare_functions_is e ((Some x, c) ∷ cs) h =
    bind_is (make_function_is c (Some e) h.1) (λ k p. bind_is (bind_name_is e x (Object k) tt) (λ u q. declare_functions_is e cs h.2))

pub call_end_is : (s : Signal) → SignalIs s → SignalIs (call_end s)
call_end_is (signal.Value v) h = tt
call_end_is (signal.Thrown v) h = h
call_end_is (signal.Return v) h = h
call_end_is signal.Break h = tt
call_end_is signal.Continue h = tt

pub enter_is : {run : Here → tree.Stmts → Act} → ((here : Here) → HereIs here → (body : tree.Stmts) → LiteralStmts body → Writes (run here body))
    → (c : tree.Code) (env : Option EnvId) (this : Value) (vs : List Value) → LiteralCode c → IsBounded this → AreBounded vs → Writes (enter run c env this vs)
enter_is g (code x formals body) env this vs h k l =
    bind_is (make_environment_is env (entry_names formals body vs) (entry_literal formals body vs l)) (λ e p.
    also_is (declare_functions_is e (functions_of body) (functions_literal body h.3)) (λ v q.
    bind_is (g (record { env = Some e; this = this }) k body h.3) (λ s r. ret_is (call_end s) (call_end_is s r))))

-- ---- what a script declares

pub define_global_is : (x : List ℕ) → IsText x → Writes (define_global x)
define_global_is x h = unless_is (define_at_is window x (script_property Undefined) h tt) done_is

take_function_is : (x : List ℕ) (o : Option Prop) → IsText x → Writes (take_function x o)
take_function_is x None h = define_global_is x h
take_function_is x (Some p) h =
    choose_is p.configurable (define_global_is x h) (choose_is (p.writable && p.enumerable) done_is (raise_is CannotDefine tt))

pub declare_globals_is : (cs : Declared) → LiteralDeclared cs → Writes (declare_globals cs)
declare_globals_is [] h = done_is
declare_globals_is ((None, c) ∷ cs) h = declare_globals_is cs h.2
declare_globals_is ((Some x, c) ∷ cs) h =
    bind_is (make_function_is c None h.1) (λ k p.
    also_is (asking_any {f = own_global x} (λ o. take_function_is x o h.0)) (λ v q.
    also_is (put_in_is window x (Object k) h.0 tt) (λ w r. declare_globals_is cs h.2)))

take_variable_is : (x : List ℕ) (o : Option Prop) → IsText x → Writes (take_variable x o)
take_variable_is x None h = define_global_is x h
take_variable_is x (Some p) h = done_is

pub global_variables_is : (xs : List (List ℕ)) → AreTexts xs → Writes (global_variables xs)
global_variables_is [] h = done_is
global_variables_is (x ∷ xs) h = also_is (asking_any {f = own_global x} (λ o. take_variable_is x o h.0)) (λ v p. global_variables_is xs h.1)
