-- What a visit makes of what its function gave.
use Rattle.std.proofs.Common.{◌≡◌, refl, sym, ap, ◌∙◌, ℕ, ◌<◌, ◌≤◌, Bool, List, [], ◌∷◌, length, get_or, Result, Ok, Err, IfOk, arith, le_refl}
use Rattle.std.specs.Result.{IsErr, IsErrAnd}
use Rattle.std.proofs.lemmas.Result.{err_from_is_err_and}
use Rattle.js_values.specs.declared.built_in.BuiltIn.{BuiltIn}
use Rattle.js_values.specs.declared.built_in.BuiltIn.TheVariants as built_in
use Rattle.js_values.specs.declared.ids.ObjId.{ObjId}
use Rattle.js_values.specs.declared.throw.Throw.TheVariants.{WrongArgument}
use Rattle.js_values.specs.declared.value.Value.{Value}
use Rattle.js_values.specs.declared.value.Value.TheVariants.{Undefined}
use Rattle.page_meaning.specs.declared.signal.Signal.TheVariants.{Value as Val, Thrown}
use Rattle.page_meaning.specs.declared.visit.Visit.{Visit}
use Rattle.page_meaning.specs.declared.visit.Visit.TheVariants as visit
use Rattle.page_meaning.specs.Act.{Act, Calls, Ended, also, choose}
use Rattle.page_meaning.specs.Calls.{calls_at}
use Rattle.page_meaning.specs.Elements.{length_of}
use Rattle.page_meaning.specs.Errors.{raise}
use Rattle.page_meaning.specs.FunctionRows.{is_callable}
use Rattle.page_meaning.specs.ObjectRows.{argument}
use Rattle.page_meaning.specs.Store.{Store}
use Rattle.page_meaning.specs.VisitRows.{filter_all, reduce, reduce_from, visit_list, visit_on, visits}
use Rattle.page_frames.specs.declared.frame.Visited.{Visited}
use Rattle.page_frames.specs.declared.meter.Meter.{Meter}
use Rattle.page_frames.specs.declared.meter.Next.{Next}
use Rattle.js_core.specs.declared.memory.Failure.{Failure}
use Rattle.js_core.specs.declared.memory.Failure.TheVariants as fault
use Rattle.page_state.specs.Does.{Does, Raises}
use Rattle.step_parts.proofs.Callers.{lowers_as}
use Rattle.step_visit.specs.declared.telling.Told.{Told}
use Rattle.step_visit.specs.declared.telling.Told.TheVariants.{GoesOn}
use Rattle.step_visit.specs.Advancing.{Climbs}
use Rattle.step_visit.specs.Telling.{Comes}

-- an element was made, and the visit goes on
pub made_on : (m : Act) (kind : Visit) (s t : Store) → Does (λ _. m) s (Val Undefined) t → Comes (λ next. also m (λ _. next kind)) s t (Ok (GoesOn kind))
made_on m kind s t d next n = rw (d.is (calls_at 0) n) refl

not_made : (m : Act) (kind : Visit) (s t : Store) (e : Failure Value) → Raises (λ _. m) s t e → Comes (λ next. also m (λ _. next kind)) s t (Err e)
not_made m kind s t (fault.Cause v) d = λ next n. rw (d.is (calls_at 0) n) refl
not_made m kind s t fault.OutOfMemory d = tt

-- it could not be made
pub makes_fault : (m : Act) (kind : Visit) (s t : Store) (e : Failure Value) (r : Result Told (Failure Value)) → IsErrAnd r (λ d. d ≡ e) → Raises (λ _. m) s t e → Comes (λ next. also m (λ _. next kind)) s t r
makes_fault m kind s t e r h d = let p = err_from_is_err_and r h in rw (p.1, p.2) (not_made m kind s t e d)

-- ---- how `reduce` begins

pub reduces_from_value : (calls : Calls) (at : ObjId) (n : ℕ) (vs : List Value) (total : Value) → 2 ≤ length vs → total ≡ get_or vs 1 total → reduce calls at n vs ≡ visits calls (argument vs 0) Undefined at (visit.Reduce total) 0 n
reduces_from_value calls at n [] total h e = absurd (omega (arith, h))
reduces_from_value calls at n (f ∷ []) total h e = absurd (omega (arith, h))
reduces_from_value calls at n (f ∷ v ∷ vs) total h e = ap (λ x. visits calls f Undefined at (visit.Reduce x) 0 n) (sym e)

pub reduces_from_element : (calls : Calls) (at : ObjId) (n : ℕ) (vs : List Value) → length vs < 2 → reduce calls at n vs ≡ reduce_from calls (argument vs 0) at 0 n
reduces_from_element calls at n [] h = refl
reduces_from_element calls at n (f ∷ []) h = refl
reduces_from_element calls at n (f ∷ v ∷ vs) h = absurd (omega (arith, h))

-- all others are refused
refused : (calls : Calls) (which : BuiltIn) (at : ObjId) (n : ℕ) (vs : List Value) → (which ≡ built_in.ArrayPrototypeEvery → ⊥) → (which ≡ built_in.ArrayPrototypeSome → ⊥) → (which ≡ built_in.ArrayPrototypeForEach → ⊥)
    → (which ≡ built_in.ArrayPrototypeMap → ⊥) → (which ≡ built_in.ArrayPrototypeFilter → ⊥) → (which ≡ built_in.ArrayPrototypeReduce → ⊥) → visit_list calls which at n vs ≡ raise WrongArgument
refused calls built_in.ArrayPrototypeEvery at n vs a b c d e f = absurd (a refl)
refused calls built_in.ArrayPrototypeSome at n vs a b c d e f = absurd (b refl)
refused calls built_in.ArrayPrototypeForEach at n vs a b c d e f = absurd (c refl)
refused calls built_in.ArrayPrototypeMap at n vs a b c d e f = absurd (d refl)
refused calls built_in.ArrayPrototypeFilter at n vs a b c d e f = absurd (e refl)
refused calls built_in.ArrayPrototypeReduce at n vs a b c d e f = absurd (f refl)
refused calls which at n vs a b c d e f = refl

pub other_visits : {E : Type 0} (which : BuiltIn) (at : ObjId) (n : ℕ) (vs : List Value) (w t : Store) (m m1 : Meter) (r : Result Next E) → (which ≡ built_in.ArrayPrototypeEvery → ⊥) → (which ≡ built_in.ArrayPrototypeSome → ⊥)
    → (which ≡ built_in.ArrayPrototypeForEach → ⊥) → (which ≡ built_in.ArrayPrototypeMap → ⊥) → (which ≡ built_in.ArrayPrototypeFilter → ⊥) → (which ≡ built_in.ArrayPrototypeReduce → ⊥)
    → IfOk r (λ k. Climbs (λ _. raise WrongArgument) w m k t m1) → IfOk r (λ k. Climbs (λ calls. visit_list calls which at n vs) w m k t m1)
other_visits which at n vs w t m m1 r a b c d e f h =
    lowers_as (λ calls. visit_list calls which at n vs) (λ _. raise WrongArgument) 0 0 w t m m1 r
    (λ calls k. ap (λ (x : Act). x.run w k) (refused calls which at n vs a b c d e f)) (le_refl 0) h

-- what is to be called may be called, or not
pub asked_to_visit : {E : Type 0} (which : BuiltIn) (vs : List Value) (at : ObjId) (n : ℕ) (b : Bool) (w t : Store) (m m1 : Meter) (r : Result Next E) → n ≡ length_of at w → b ≡ is_callable (argument vs 0) w
    → IfOk r (λ k. Climbs (λ calls. choose b (visit_list calls which at n vs) (raise WrongArgument)) w m k t m1) → IfOk r (λ k. Climbs (λ calls. visit_on calls which vs at) w m k t m1)
asked_to_visit which vs at n b w t m m1 r e f h =
    lowers_as (λ calls. visit_on calls which vs at) (λ calls. choose b (visit_list calls which at n vs) (raise WrongArgument)) 0 0 w t m m1 r
    (λ calls k. rw (← e, ← f) refl) (le_refl 0) h

-- `filter` and its function
pub filters : {E : Type 0} (which : BuiltIn) (f this : Value) (at : ObjId) (n : ℕ) (vs : List Value) (w t : Store) (m m1 : Meter) (r : Result Next E) → which ≡ built_in.ArrayPrototypeFilter
    → f ≡ argument vs 0 → this ≡ argument vs 1 → IfOk r (λ k. Climbs (λ calls. filter_all calls f this at n) w m k t m1) → IfOk r (λ k. Climbs (λ calls. visit_list calls which at n vs) w m k t m1)
filters which f this at n vs w t m m1 r is e g h =
    lowers_as (λ calls. visit_list calls which at n vs) (λ calls. filter_all calls f this at n) 0 0 w t m m1 r
    (λ calls k. ap (λ q. (visit_list calls q at n vs).run w k) is ∙ ap (λ x. (filter_all calls x (argument vs 1) at n).run w k) (sym e)
    ∙ ap (λ x. (filter_all calls f x at n).run w k) (sym g)) (le_refl 0) h

-- `reduce` with a value to begin with
pub reduces_with : {E : Type 0} (x : Visited) (vs : List Value) (total : Value) (w t : Store) (m m1 : Meter) (r : Result Next E) → x.this ≡ Undefined → x.callback ≡ argument vs 0 → 2 ≤ length vs → total ≡ get_or vs 1 total
    → IfOk r (λ k. Climbs (λ calls. visits calls x.callback x.this x.list (visit.Reduce total) 0 x.length) w m k t m1) → IfOk r (λ k. Climbs (λ calls. reduce calls x.list x.length vs) w m k t m1)
reduces_with x vs total w t m m1 r none e two is h =
    lowers_as (λ calls. reduce calls x.list x.length vs) (λ calls. visits calls x.callback x.this x.list (visit.Reduce total) 0 x.length) 0 0 w t m m1 r
    (λ calls k. ap (λ (a : Act). a.run w k) (reduces_from_value calls x.list x.length vs total two is)
    ∙ ap (λ f. (visits calls f Undefined x.list (visit.Reduce total) 0 x.length).run w k) (sym e)
    ∙ ap (λ y. (visits calls x.callback y x.list (visit.Reduce total) 0 x.length).run w k) (sym none)) (le_refl 0) h

pub reduces_without : {E : Type 0} (f : Value) (at : ObjId) (n : ℕ) (vs : List Value) (w t : Store) (m m1 : Meter) (r : Result Next E) → f ≡ argument vs 0 → length vs < 2
    → IfOk r (λ k. Climbs (λ calls. reduce_from calls f at 0 n) w m k t m1) → IfOk r (λ k. Climbs (λ calls. reduce calls at n vs) w m k t m1)
reduces_without f at n vs w t m m1 r e few h =
    lowers_as (λ calls. reduce calls at n vs) (λ calls. reduce_from calls f at 0 n) 0 0 w t m m1 r
    (λ calls k. ap (λ (a : Act). a.run w k) (reduces_from_element calls at n vs few) ∙ ap (λ x. (reduce_from calls x at 0 n).run w k) (sym e)) (le_refl 0) h
