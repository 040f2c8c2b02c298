-- What the rows of built-in functions do on a page where the statements of a saved page run: definitions, and the end of extensions.
use Rattle.std.proofs.Common.{◌≡◌, ap, ◌∙◌, ℕ, suc, ◌+◌, Bool, true, false, List, [], ◌∷◌, Option, None, Result, Ok, codes, length}
use Rattle.built_in_paths.specs.Laws.{EachHasPath, PathsLead}
use Rattle.js_core.specs.Tree as tree
use Rattle.js_core.specs.Tree.{call, expr, no_exprs, text, then_expr}
use Rattle.js_values.specs.declared.built_in.BuiltIn.TheVariants as built_in
use Rattle.js_values.specs.declared.ids.ObjId.{ObjId}
use Rattle.js_values.specs.declared.throw.Throw.{Throw}
use Rattle.js_values.specs.declared.value.Value.{Value}
use Rattle.js_values.specs.declared.value.Value.TheVariants.{Object as Reference, Text}
use Rattle.object_heap.specs.Define.{length_name, number}
use Rattle.object_heap.specs.Attempt.{Attempt}
use Rattle.object_heap.specs.Heap.{Contents, define_own, prevent_extensions}
use Rattle.object_heap.specs.Property.{Props}
use Rattle.object_heap.specs.declared.property.Change.{Change}
use Rattle.page_meaning.specs.Act.{Act, Calls, Ended, choose, done, give, nothing}
use Rattle.page_meaning.specs.Calls.{calls_at}
use Rattle.page_meaning.specs.Descriptors.{change_in, define_in, define_length, define_or_throw}
use Rattle.page_meaning.specs.Errors.{on_refusal}
use Rattle.page_meaning.specs.Expressions.{eval, eval_args}
use Rattle.page_meaning.specs.ObjectRows.{define_as, define_property}
use Rattle.page_meaning.specs.Places.{function_at, function_place}
use Rattle.page_meaning.specs.Primitives.{next_place}
use Rattle.page_meaning.specs.Properties.{class_at, is_length_of}
use Rattle.page_meaning.specs.Statements.{exec}
use Rattle.page_meaning.specs.Store.{Store, with_heap}
use Rattle.page_meaning.specs.declared.signal.Signal.TheVariants.{Value as Val}
use Rattle.page_writer.specs.Statements.{define_expr, object_function, reference}
use Rattle.rebuilding.specs.Running.{short_change}
use Rattle.page_meaning.specs.HostNames.{is_kept}
use Rattle.rebuilding.proofs.Ordinary.{define_unkept}
use Rattle.rebuilding.specs.Scene.{IsRunning, Scene, inside}
use Rattle.rebuilding.specs.Sites.{sited}
use Rattle.rebuilding.proofs.Calling.{also_on, define_property_called, is_define_property, is_prevent_extensions, native_called, prevent_extensions_called}
use Rattle.rebuilding.proofs.Literals.{with_literal}
use Rattle.rebuilding.proofs.Reading.{reference_read}
use Rattle.object_shapes.specs.Links.{all_below}
use Rattle.rebuild_plan.specs.Moved.{first_thing}

-- ---- definitions

define_run : (at : ObjId) (x : List ℕ) (change : Change) (s : Store) (n : ℕ) → is_kept s.host.nodes (class_at s at) x ≡ false → (define_own s.heap at.0 x change).thrown ≡ None
    → (define_or_throw at x change).run s n ≡ Ended nothing (with_heap s (define_own s.heap at.0 x change).after) n
define_run at x change s n free e =
    ap (λ (a : Attempt Contents). (on_refusal done a.thrown).run (with_heap s a.after) n) (define_unkept s at x change free)
    ∙ ap (λ (t : Option Throw). (on_refusal done t).run (with_heap s (define_own s.heap at.0 x change).after) n) e

-- of a name that is no array's length
pub other_defined : (at : ObjId) (x : List ℕ) (change : Change) (s : Store) (n : ℕ) → is_kept s.host.nodes (class_at s at) x ≡ false → is_length_of s at x ≡ false
    → (define_own s.heap at.0 x change).thrown ≡ None
    → (define_in at x change).run s n ≡ Ended nothing (with_heap s (define_own s.heap at.0 x change).after) n
other_defined at x change s n free other e =
    ap (λ b. (choose b (define_length at change change.value) (define_or_throw at x change)).run s n) other ∙ define_run at x change s n free e

-- of a length, which is a number already
pub length_defined : (at : ObjId) (count : ℕ) (writable : Bool) (sites : List ℕ) (s : Store) (n : ℕ) → is_kept s.host.nodes (class_at s at) length_name ≡ false
    → let change = short_change sites (number count) writable in
    (define_own s.heap at.0 length_name change).thrown ≡ None
    → (define_in at length_name change).run s n ≡ Ended nothing (with_heap s (define_own s.heap at.0 length_name change).after) n
length_defined at count writable sites s n free e = by (is_length_of s at length_name)
  where
    change : Change
    change = short_change sites (number count) writable

    by : (b : Bool)
        → (choose b (define_length at change change.value) (define_or_throw at length_name change)).run s n
        ≡ Ended nothing (with_heap s (define_own s.heap at.0 length_name change).after) n
    by true = define_run at length_name change s n free e
    by false = define_run at length_name change s n free e

-- by the name and the descriptor
property_defined : (calls : Calls) (at d : ObjId) (x : List ℕ) (change : Change) (s : Store) (i : Contents) (n : ℕ)
    → change_in s (Reference d) ≡ Ok change
    → (define_in at x change).run s n ≡ Ended nothing (with_heap s i) n
    → (define_property calls (Text x) (Reference d) at).run s n ≡ Ended (Val (Reference at)) (with_heap s i) n
property_defined calls at d x change s i n asks ends =
    ap (λ (o : Result Change Throw). (define_as at x o).run s n) asks ∙ also_on (λ _. give (Reference at)) ends

-- ---- statements that call such a function

module _ (c : Scene) (s : Store) (sites : List ℕ) (r : IsRunning c s.heap sites) (lead : PathsLead) (each : EachHasPath) (d n : ℕ) (at : ObjId)
    (stands : all_below (first_thing + length sites) (at.0 ∷ []) ≡ true) where
  -- `Object.defineProperty` with a descriptor that is an object literal
  pub define_ran : (x : List ℕ) (e : tree.Expr) (props : Props) (change : Change) (i : Contents) → IsRunning c (with_literal s.heap props) sites
      → (eval (calls_at (suc d)) (inside c) e).run s (suc n)
      ≡ Ended (Val (Reference (next_place s.heap))) (with_heap s (with_literal s.heap props)) (suc n)
      → change_in (with_heap s (with_literal s.heap props)) (Reference (next_place s.heap)) ≡ Ok change
      → (define_in (sited sites at) x change).run (with_heap s (with_literal s.heap props)) n ≡ Ended nothing (with_heap s i) n
      → (exec (calls_at (suc d)) (inside c) (expr (define_expr at x e))).run s (suc n) ≡ Ended nothing (with_heap s i) n
  define_ran x e props change i running read asks ends =
      let calls = calls_at (suc d) in
      let here = inside c in
      let o : Value = Reference (sited sites at) in
      let this : Value = Reference (function_at built_in.Object) in
      let f : List Value → Act = calls.call (Reference (function_at built_in.ObjectDefineProperty)) this in
      let t = with_heap s (with_literal s.heap props) in
      let p : Value = Reference (next_place s.heap) in
      also_on (λ _. done)
      (define_property_called c s sites r calls (suc n) (then_expr (reference at) (then_expr (text x) (then_expr e no_exprs)))
      ∙ also_on (λ v. eval_args calls here (then_expr (text x) (then_expr e no_exprs)) (v ∷ []) f)
      (reference_read c s sites r calls (suc n) lead each at stands)
      ∙ also_on (λ v. f (o ∷ Text x ∷ v ∷ [])) read
      ∙ native_called d built_in.ObjectDefineProperty (function_place built_in.ObjectDefineProperty) this (o ∷ Text x ∷ p ∷ []) t n
      (is_define_property c t sites running)
      ∙ property_defined (calls_at d) (sited sites at) (next_place s.heap) x change t i n asks ends)

  -- `Object.preventExtensions`
  pub prevent_ran : (prevent_extensions s.heap (sited sites at).0).thrown ≡ None
      → (exec (calls_at (suc d)) (inside c) (expr (call (object_function (codes "preventExtensions")) (then_expr (reference at) no_exprs)))).run s
      (suc n)
      ≡ Ended nothing (with_heap s (prevent_extensions s.heap (sited sites at).0).after) n
  prevent_ran thrown =
      let calls = calls_at (suc d) in
      let o : Value = Reference (sited sites at) in
      let this : Value = Reference (function_at built_in.Object) in
      let f : List Value → Act = calls.call (Reference (function_at built_in.ObjectPreventExtensions)) this in
      also_on (λ _. done)
      (prevent_extensions_called c s sites r calls (suc n) (then_expr (reference at) no_exprs)
      ∙ also_on (λ v. f (v ∷ [])) (reference_read c s sites r calls (suc n) lead each at stands)
      ∙ native_called d built_in.ObjectPreventExtensions (function_place built_in.ObjectPreventExtensions) this (o ∷ []) s n
      (is_prevent_extensions c s sites r)
      ∙ ap (λ (t : Option Throw). (on_refusal (give o) t).run (with_heap s (prevent_extensions s.heap (sited sites at).0).after) n) thrown)
