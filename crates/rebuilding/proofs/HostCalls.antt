-- Calls of methods of nodes, of events and of the document, and of functions of timers, in statements: each is its row, with a step less
-- (ECMA-262 5.1 section 11.2.3).
use Rattle.std.proofs.Common.{◌≡◌, sym, ap, ◌∙◌, ℕ, suc, false, List, [], ◌∷◌, ◌++◌, Option, Some, None, append-nil, append_assoc}
use Rattle.std.specs.Prelude.{unwrap_or}
use Rattle.js_core.specs.Tree as tree
use Rattle.js_core.specs.Tree.{call, expr, member, name, no_exprs, then_expr}
use Rattle.js_values.specs.declared.built_in.BuiltIn.{BuiltIn}
use Rattle.js_values.specs.declared.ids.ObjId.{ObjId}
use Rattle.js_values.specs.declared.value.Value.{Value}
use Rattle.js_values.specs.declared.value.Value.TheVariants as value
use Rattle.object_heap.specs.Chain.{get, object_at}
use Rattle.object_heap.specs.declared.object.Class.{Class}
use Rattle.object_heap.specs.declared.object.Class.TheVariants.{Native}
use Rattle.page_host.specs.HostNames.{host_name}
use Rattle.page_host.specs.declared.host_name.HostName.{HostName}
use Rattle.page_meaning.specs.Act.{Act, Ended, also, done, nothing, on_value, then_on}
use Rattle.page_meaning.specs.Calls.{begin, called, calls_at}
use Rattle.page_meaning.specs.Errors.{settle}
use Rattle.page_meaning.specs.Expressions.{eval, eval_args}
use Rattle.page_meaning.specs.Names.{Here}
use Rattle.page_meaning.specs.Places.{function_at, function_place}
use Rattle.page_meaning.specs.Properties.{get_member, is_function}
use Rattle.page_meaning.specs.Reading.{named_at}
use Rattle.page_meaning.specs.Rows.{row_of}
use Rattle.page_meaning.specs.Statements.{exec}
use Rattle.page_meaning.specs.Store.{Store}
use Rattle.page_meaning.specs.declared.signal.Signal.TheVariants.{Value as Val}
use Rattle.rebuilding.proofs.Calling.{also_on}

-- the built-in function stands at its place
abbrev pub IsNative : Store → BuiltIn → Type 0
IsNative s which = (object_at s.heap.objects (function_place which)).class ≡ Native which

-- the object has it by this name, which is none of the host's, itself or from a prototype
pub record HasMethod (s : Store) (at : ObjId) (x : List ℕ) (which : BuiltIn) : Type 0 where
  pub plain : host_name x ≡ None
  pub got : get s.heap.objects at.0 x ≡ Some (value.Object (function_at which))
  pub native : IsNative s which

module _ (here : Here) (d : ℕ) (s : Store) (n : ℕ) where
  -- the expression is this value, without a step
  abbrev pub Reads : tree.Expr → Value → Type 0
  Reads e v = (eval (calls_at (suc d)) here e).run s (suc n) ≡ Ended (Val v) s (suc n)

  -- the arguments are these values
  abbrev pub ReadsAll : tree.Exprs → List Value → Type 0
  ReadsAll es vs = (got : List Value) (f : List Value → Act) → (eval_args (calls_at (suc d)) here es got f).run s (suc n) ≡ (f (got ++ vs)).run s (suc n)

  native_runs : (which : BuiltIn) (this : Value) (vs : List Value) → IsNative s which
      → ((calls_at (suc d)).call (value.Object (function_at which)) this vs).run s (suc n) ≡ (row_of (calls_at d) false which this vs).run s n
  native_runs which this vs e = ap (λ (c : Class). (begin (is_function (Some c)) (called (calls_at d) this vs (Some c))).run s (suc n)) e

  pub none_read : ReadsAll no_exprs []
  none_read got f = ap (λ l. (f l).run s (suc n)) (sym (append-nil got))

  pub next_read : (e : tree.Expr) (v : Value) (es : tree.Exprs) (vs : List Value) → Reads e v → ReadsAll es vs → ReadsAll (then_expr e es) (v ∷ vs)
  next_read e v es vs h more got f =
      also_on (λ w. eval_args (calls_at (suc d)) here es (got ++ w ∷ []) f) h ∙ more (got ++ v ∷ []) f ∙ ap (λ l. (f l).run s (suc n)) (append_assoc got (v ∷ []) vs)

  -- a method is called
  pub method_runs : (e : tree.Expr) (at : ObjId) (x : List ℕ) (which : BuiltIn) (es : tree.Exprs) (vs : List Value) → Reads e (value.Object at) → HasMethod s at x which → ReadsAll es vs
      → (eval (calls_at (suc d)) here (call (member e x) es)).run s (suc n) ≡ (row_of (calls_at d) false which (value.Object at) vs).run s n
  method_runs e at x which es vs base has args =
      also_on (λ b. also (get_member b x) (λ f. eval_args (calls_at (suc d)) here es [] ((calls_at (suc d)).call f b))) base
      ∙ ap (λ (o : Option HostName). then_on ((settle (named_at s at x o)).run s (suc n)) (on_value (λ f. eval_args (calls_at (suc d)) here es [] ((calls_at (suc d)).call f (value.Object at))))) has.plain
      ∙ ap (λ o. (eval_args (calls_at (suc d)) here es [] ((calls_at (suc d)).call (unwrap_or o value.Undefined) (value.Object at))).run s (suc n)) has.got
      ∙ args [] ((calls_at (suc d)).call (value.Object (function_at which)) (value.Object at))
      ∙ native_runs which (value.Object at) vs has.native

  -- a function of the global object is called
  pub function_runs : (x : List ℕ) (which : BuiltIn) (es : tree.Exprs) (vs : List Value) → Reads (name x) (value.Object (function_at which)) → IsNative s which → ReadsAll es vs
      → (eval (calls_at (suc d)) here (call (name x) es)).run s (suc n) ≡ (row_of (calls_at d) false which value.Undefined vs).run s n
  function_runs x which es vs callee native args =
      also_on (λ f. eval_args (calls_at (suc d)) here es [] ((calls_at (suc d)).call f value.Undefined)) callee
      ∙ args [] ((calls_at (suc d)).call (value.Object (function_at which)) value.Undefined)
      ∙ native_runs which value.Undefined vs native

  -- the end of a statement
  pub statement_ran : (e : tree.Expr) (v : Value) (t : Store) (k : ℕ) → (eval (calls_at (suc d)) here e).run s (suc n) ≡ Ended (Val v) t k
      → (exec (calls_at (suc d)) here (expr e)).run s (suc n) ≡ Ended nothing t k
  statement_ran e v t k h = also_on (λ _. done) h
