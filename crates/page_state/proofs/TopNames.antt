-- What a script declares at the top.
use Rattle.std.proofs.Common.{◌≡◌, refl, sym, ap, subst, ◌∙◌, ℕ, true, false, List, [], ◌∷◌, length, Option, Some, None, Result, Ok, Err}
use Rattle.std.specs.Result.{IsErr, IsErrAnd}
use Rattle.js_core.specs.Tree as tree
use Rattle.js_values.specs.declared.ids.ObjId.{ObjId}
use Rattle.js_values.specs.declared.throw.Throw.{Throw}
use Rattle.js_values.specs.declared.throw.Throw.TheVariants.{CannotDefine}
use Rattle.js_values.specs.declared.value.Value.{Value}
use Rattle.js_values.specs.declared.value.Value.TheVariants.{Undefined, Object}
use Rattle.object_heap.specs.declared.property.Change.{Change}
use Rattle.object_heap.specs.declared.property.Prop.{Prop}
use Rattle.object_heap.specs.Laws.{after_steps}
use Rattle.page_meaning.specs.declared.signal.Signal.{Signal}
use Rattle.page_meaning.specs.declared.signal.Signal.TheVariants.{Value as Val, Thrown, Return, Break, Continue}
use Rattle.page_meaning.specs.Act.{Act, Ended, Outcome, Stopped, also, asking, done, nothing, on_value, then_on}
use Rattle.page_meaning.specs.Errors.{raise}
use Rattle.page_meaning.specs.Functions.{Declared, declare_globals, define_global, take_function, function_steps, global_variables, make_function, own_global, script_property, take_variable}
use Rattle.page_meaning.specs.Places.{window}
use Rattle.page_meaning.specs.Primitives.{define_at, next_place}
use Rattle.page_meaning.specs.Properties.{put_in}
use Rattle.page_meaning.specs.Store.{Store, with_heap}
use Rattle.js_core.specs.declared.memory.Failure.{Failure}
use Rattle.js_core.specs.declared.memory.Failure.TheVariants as fault
use Rattle.page_state.specs.Does.{Does, Gives, Raises, no_value}
use Rattle.page_state.specs.Globals.{declared_global, keeps_place, named_global, takes_place}
use Rattle.page_state.proofs.Does.{also_gives, asked_gives, bind_gives, failed, passed, refused}

-- ---- one act after another

-- an act that ends with nothing, and then what comes next
also_done : (o : Outcome Signal) (p next : Act) → then_on (then_on o (on_value (λ _. also p (λ _. done)))) (on_value (λ _. next)) ≡ then_on o (on_value (λ _. also p (λ _. next)))
also_done (Ended (Val v) t n) p next = by_end (p.run t n)
  where
    by_end : (o : Outcome Signal) → then_on (then_on o (on_value (λ _. done))) (on_value (λ _. next)) ≡ then_on o (on_value (λ _. next))
    by_end (Ended (Val v) t n) = refl
    by_end (Ended (Thrown v) t n) = refl
    by_end (Ended (Return v) t n) = refl
    by_end (Ended Break t n) = refl
    by_end (Ended Continue t n) = refl
    by_end (Stopped t) = refl
also_done (Ended (Thrown v) t n) p next = refl
also_done (Ended (Return v) t n) p next = refl
also_done (Ended Break t n) p next = refl
also_done (Ended Continue t n) p next = refl
also_done (Stopped t) p next = refl

-- a fault that is handed on
handed : (act : Act) (s t : Store) (e : Failure Value) (r : Result (Unit {0}) (Failure Value)) → Raises (λ _. act) s t e → IsErr r × IsErrAnd r (λ d. d ≡ e) → Gives no_value (λ _. act) s t r
handed act s t e (Ok x) d h = cc (h.0)
handed act s t e (Err x) d h = rw (h.1) d

-- ---- functions

-- a function is declared, and then what comes next
global_then : (d : Option (List ℕ) × tree.Code) (next : Act) (s : Store) (n : ℕ) → (also (declared_global d done) (λ _. next)).run s n ≡ (declared_global d next).run s n
global_then (None, c) next s n = refl
global_then (Some x, c) next s n = at_named (next_place s.heap) (with_heap s (after_steps s.heap (function_steps c None (length s.heap.objects))))
  where
    at_named : (k : ObjId) (t : Store) → (also (named_global x k done) (λ _. next)).run t n ≡ (named_global x k next).run t n
    at_named k t = also_done ((asking (own_global x) (take_function x)).run t n) (put_in window x (Object k)) next

global_first : (d : Option (List ℕ) × tree.Code) (ds : Declared) → declare_globals (d ∷ ds) ≡ declared_global d (declare_globals ds)
global_first (None, c) ds = refl
global_first (Some x, c) ds = refl

first_run : (d : Option (List ℕ) × tree.Code) (ds all : Declared) (s : Store) (n : ℕ) → all ≡ d ∷ ds → (declare_globals all).run s n ≡ (also (declared_global d done) (λ _. declare_globals ds)).run s n
first_run d ds all s n is = ap (λ a. (declare_globals a).run s n) is ∙ ap (λ (a : Act). a.run s n) (global_first d ds) ∙ sym (global_then d (declare_globals ds) s n)

pub globals_on : (d : Option (List ℕ) × tree.Code) (ds all : Declared) (s t u : Store) (r : Result (Unit {0}) (Failure Value)) → all ≡ d ∷ ds → Does (λ _. declared_global d done) s nothing t → Gives no_value (λ _. declare_globals ds) t u r
    → Gives no_value (λ _. declare_globals all) s u r
globals_on d ds all s t u (Ok x) is one rest = record { is = λ c n. first_run d ds all s n is ∙ rw (one.is c n) (rest.is c n) }
globals_on d ds all s t u (Err (fault.Cause v)) is one rest = record { is = λ c n. first_run d ds all s n is ∙ rw (one.is c n) (rest.is c n) }
globals_on d ds all s t u (Err fault.OutOfMemory) is one rest = tt

globals_raise : (d : Option (List ℕ) × tree.Code) (ds all : Declared) (s t : Store) (e : Failure Value) → all ≡ d ∷ ds → Raises (λ _. declared_global d done) s t e → Raises (λ _. declare_globals all) s t e
globals_raise d ds all s t (fault.Cause v) is one = record { is = λ c n. first_run d ds all s n is ∙ rw (one.is c n) refl }
globals_raise d ds all s t fault.OutOfMemory is one = tt

pub globals_end : (d : Option (List ℕ) × tree.Code) (ds all : Declared) (s t : Store) (e : Failure Value) (r : Result (Unit {0}) (Failure Value)) → all ≡ d ∷ ds → Raises (λ _. declared_global d done) s t e → IsErr r × IsErrAnd r (λ x. x ≡ e)
    → Gives no_value (λ _. declare_globals all) s t r
globals_end d ds all s t e r is one h = handed (declare_globals all) s t e r (globals_raise d ds all s t e is one) h

pub globals_none : (ds : Declared) (s : Store) → ds ≡ [] → Gives no_value (λ _. declare_globals ds) s s (Ok tt)
globals_none ds s none = let P : Declared → Type 0 = λ d. Does (λ _. declare_globals d) s nothing s in subst P (sym none) (record { is = λ c n. refl })

pub globals_as : (ds es : Declared) (s t : Store) (r : Result (Unit {0}) (Failure Value)) → ds ≡ es → Gives no_value (λ _. declare_globals ds) s t r → Gives no_value (λ _. declare_globals es) s t r
globals_as ds es s t r is g = let P : Declared → Type 0 = λ d. Gives no_value (λ _. declare_globals d) s t r in subst P is g

pub global_named : (d : Option (List ℕ) × tree.Code) (x : List ℕ) (c : tree.Code) (k : ObjId) (s t u : Store) (r : Result (Unit {0}) (Failure Value)) → d.0 ≡ Some x → c ≡ d.1 → Does (λ _. make_function c None) s k t
    → Gives no_value (λ _. named_global x k done) t u r → Gives no_value (λ _. declared_global d done) s u r
global_named (None, b) x c k s t u r named is made put = cc
global_named (Some y, b) x c k s t u r named is made put =
    let same : y ≡ x = cc in
    let P : List ℕ × tree.Code → Type 0 = λ d. Gives no_value (λ _. declared_global (Some d.0, d.1) done) s u r in
    let equal : (x, c) ≡ (y, b) = cc in
    subst P equal (bind_gives (λ _. make_function c None) (λ _ k. named_global x k done) no_value k s t u r made put)

-- ---- where a function is put

module _ (x : List ℕ) (k : ObjId) where
  pub no_place : (s t : Store) (e : Failure Value) (r : Result (Unit {0}) (Failure Value)) → Raises (λ _. asking (own_global x) (take_function x)) s t e → IsErr r × IsErrAnd r (λ d. d ≡ e) → Gives no_value (λ _. named_global x k done) s t r
  no_place s t e r d h = failed (λ _. asking (own_global x) (take_function x)) (λ _ _. also (put_in window x (Object k)) (λ _. done)) no_value s t e r d h

  pub not_put : (s t u : Store) (e : Failure Value) (r : Result (Unit {0}) (Failure Value)) → Does (λ _. asking (own_global x) (take_function x)) s nothing t → Raises (λ _. put_in window x (Object k)) t u e → IsErr r × IsErrAnd r (λ d. d ≡ e)
      → Gives no_value (λ _. named_global x k done) s u r
  not_put s t u e r placed d h =
      also_gives (λ _. asking (own_global x) (take_function x)) (λ _ _. also (put_in window x (Object k)) (λ _. done)) no_value Undefined s t u r placed
      (failed (λ _. put_in window x (Object k)) (λ _ _. done) no_value t u e r d h)

  pub put_there : (s t u : Store) (v : Value) → Does (λ _. asking (own_global x) (take_function x)) s nothing t → Does (λ _. put_in window x (Object k)) t (Val v) u → Gives no_value (λ _. named_global x k done) s u (Ok tt)
  put_there s t u v placed put =
      also_gives (λ _. asking (own_global x) (take_function x)) (λ _ _. also (put_in window x (Object k)) (λ _. done)) no_value Undefined s t u (Ok tt) placed
      (also_gives (λ _. put_in window x (Object k)) (λ _ _. done) no_value v t u u (Ok tt) put (record { is = λ c n. refl }))

-- ---- the place of a name

module _ (x : List ℕ) (s t : Store) (r : Result (Unit {0}) (Failure Value)) where
  place_as : (o : Option Prop) (next : Act) → o ≡ own_global x s → take_function x o ≡ next → Gives no_value (λ _. next) s t r → Gives no_value (λ _. asking (own_global x) (take_function x)) s t r
  place_as o next is e g =
      let P : Act → Type 0 = λ a. Gives no_value (λ _. a) s t r in
      asked_gives (own_global x) (λ _. take_function x) no_value s t r (subst P (sym e ∙ ap (take_function x) is) g)

  pub place_taken : (o : Option Prop) → o ≡ own_global x s → true ≡ takes_place o → Gives no_value (λ _. define_global x) s t r → Gives no_value (λ _. asking (own_global x) (take_function x)) s t r
  place_taken o is takes g = place_as o (define_global x) is (by_case o takes) g
    where
      by_case : (o : Option Prop) → true ≡ takes_place o → take_function x o ≡ define_global x
      by_case None e = refl
      by_case (Some p) e = rw (← e) refl

  pub place_kept : (o : Option Prop) → o ≡ own_global x s → false ≡ takes_place o → true ≡ keeps_place o → Gives no_value (λ _. done) s t r → Gives no_value (λ _. asking (own_global x) (take_function x)) s t r
  place_kept o is takes keeps g = place_as o done is (by_case o takes keeps) g
    where
      by_case : (o : Option Prop) → false ≡ takes_place o → true ≡ keeps_place o → take_function x o ≡ done
      by_case None e f = cc
      by_case (Some p) e f = rw (← e, ← f) refl

  pub place_refused : (o : Option Prop) → o ≡ own_global x s → false ≡ takes_place o → false ≡ keeps_place o → Gives no_value (λ _. raise CannotDefine) s t r → Gives no_value (λ _. asking (own_global x) (take_function x)) s t r
  place_refused o is takes keeps g = place_as o (raise CannotDefine) is (by_case o takes keeps) g
    where
      by_case : (o : Option Prop) → false ≡ takes_place o → false ≡ keeps_place o → take_function x o ≡ raise CannotDefine
      by_case None e f = cc
      by_case (Some p) e f = rw (← e, ← f) refl

  pub variable_placed : None ≡ own_global x s → Gives no_value (λ _. define_global x) s t r → Gives no_value (λ _. asking (own_global x) (take_variable x)) s t r
  variable_placed is g =
      let P : Option Prop → Type 0 = λ o. Gives no_value (λ _. take_variable x o) s t r in
      asked_gives (own_global x) (λ _. take_variable x) no_value s t r (subst P is g)

-- ---- a new property

pub defined : (x : List ℕ) (change : Change) (o : Option Throw) (s t : Store) → change ≡ script_property Undefined → o ≡ None → Does (λ _. define_at window x change) s o t → Does (λ _. define_global x) s nothing t
defined x change o s t is none d =
    let P : Change × Option Throw → Type 0 = λ p. Does (λ _. define_at window x p.0) s p.1 t in
    let equal : (change, o) ≡ (script_property Undefined, None) = cc in
    passed (define_at window x (script_property Undefined)) Undefined s t (subst P equal d)

pub not_defined : (x : List ℕ) (change : Change) (o : Option Throw) (what : Throw) (s t u : Store) (e : Failure Value) → change ≡ script_property Undefined → o ≡ Some what → Does (λ _. define_at window x change) s o t → Raises (λ _. raise what) t u e
    → Raises (λ _. define_global x) s u e
not_defined x change o what s t u e is some d r =
    let P : Change × Option Throw → Type 0 = λ p. Does (λ _. define_at window x p.0) s p.1 t in
    let equal : (change, o) ≡ (script_property Undefined, Some what) = cc in
    refused (define_at window x (script_property Undefined)) done what s t u e (subst P equal d) r

-- ---- variables

pub variables_on : (x : List ℕ) (xs all : List (List ℕ)) (s t u : Store) (r : Result (Unit {0}) (Failure Value)) → all ≡ x ∷ xs → Does (λ _. asking (own_global x) (take_variable x)) s nothing t → Gives no_value (λ _. global_variables xs) t u r
    → Gives no_value (λ _. global_variables all) s u r
variables_on x xs all s t u r is one rest =
    let P : List (List ℕ) → Type 0 = λ a. Gives no_value (λ _. global_variables a) s u r in
    subst P (sym is) (also_gives (λ _. asking (own_global x) (take_variable x)) (λ _ _. global_variables xs) no_value Undefined s t u r one rest)

pub variables_end : (x : List ℕ) (xs all : List (List ℕ)) (s t : Store) (e : Failure Value) (r : Result (Unit {0}) (Failure Value)) → all ≡ x ∷ xs → Raises (λ _. asking (own_global x) (take_variable x)) s t e → IsErr r × IsErrAnd r (λ d. d ≡ e)
    → Gives no_value (λ _. global_variables all) s t r
variables_end x xs all s t e r is one h =
    let P : List (List ℕ) → Type 0 = λ a. Gives no_value (λ _. global_variables a) s t r in
    subst P (sym is) (failed (λ _. asking (own_global x) (take_variable x)) (λ _ _. global_variables xs) no_value s t e r one h)

pub variables_none : (xs : List (List ℕ)) (s : Store) → xs ≡ [] → Gives no_value (λ _. global_variables xs) s s (Ok tt)
variables_none xs s none = let P : List (List ℕ) → Type 0 = λ a. Does (λ _. global_variables a) s nothing s in subst P (sym none) (record { is = λ c n. refl })

pub variables_as : (xs ys : List (List ℕ)) (s t : Store) (r : Result (Unit {0}) (Failure Value)) → xs ≡ ys → Gives no_value (λ _. global_variables xs) s t r → Gives no_value (λ _. global_variables ys) s t r
variables_as xs ys s t r is g = let P : List (List ℕ) → Type 0 = λ a. Gives no_value (λ _. global_variables a) s t r in subst P is g
