-- How a call begins: it is judged, and takes a step and a level of depth.
use Rattle.std.proofs.Common.{◌≡◌, ◌≢◌, refl, sym, ◌∙◌, ℕ, zero, suc, Bool, true, false, List, Result, Ok, Err, IfOk, le_refl}
use Rattle.js_values.specs.declared.throw.Throw.TheVariants.{NotFunction, TooDeep}
use Rattle.js_values.specs.declared.value.Value.{Value}
use Rattle.page_meaning.specs.Act.{Act, bind}
use Rattle.page_meaning.specs.Calls.{begin as begun, calls_at}
use Rattle.page_meaning.specs.Errors.{raise}
use Rattle.page_meaning.specs.Primitives.{take_step}
use Rattle.page_meaning.specs.Properties.{class_of}
use Rattle.page_meaning.specs.Store.{Store}
use Rattle.page_frames.specs.declared.frame.Begin.TheVariants as begin
use Rattle.page_frames.specs.declared.frame.CallFrame.{CallFrame}
use Rattle.page_frames.specs.declared.meter.Meter.{Meter}
use Rattle.page_frames.specs.declared.meter.Next.{Next}
use Rattle.page_frames.specs.declared.meter.Next.TheVariants.{Stopped}
use Rattle.page_frames.specs.RestCalls.{mean_call}
use Rattle.page_frames.specs.Step.{Begins, Leads}
use Rattle.page_frames.specs.Weight.{heavy}
use Rattle.page_frames.proofs.Callers.{step_pays}
use Rattle.js_core.specs.declared.memory.Failure.{Failure}
use Rattle.page_state.specs.Does.{Gives, itself}
use Rattle.step_parts.proofs.Callers.{IsGiven}
use Rattle.step_call.specs.Callees.{Descends, may_run, runs, runs_at}

judged : (d : ℕ) (construct : Bool) (f this : Value) (vs : List Value) (w : Store) (n : ℕ)
    → (mean_call (calls_at d) construct f this vs).run w n ≡ (begun (may_run construct (class_of w f)) (runs_at d construct f this vs (class_of w f))).run w n
judged zero false f this vs w n = refl
judged zero true f this vs w n = refl
judged (suc d) false f this vs w n = refl
judged (suc d) true f this vs w n = refl

-- it may run
pub may_begin : {E : Type 0} (x : CallFrame) (w t : Store) (m m1 : Meter) (r : Result Next E) → true ≡ may_run x.construct (class_of w x.callee)
    → IfOk r (λ n. Leads (bind take_step (λ _. runs_at m.depth x.construct x.callee x.this x.args (class_of w x.callee))) 0 w m n t m1) → IfOk r (λ n. Begins (begin.Call x) w m n t m1)
may_begin x w t m m1 (Err e) j h = h
may_begin x w t m m1 (Ok n) j h =
    let a : Leads (bind take_step (λ _. runs_at m.depth x.construct x.callee x.this x.args (class_of w x.callee))) 0 w m n t m1 = h in
    record {
      follows = judged m.depth x.construct x.callee x.this x.args w m.steps ∙ rw (← j) (a.follows);
      levels = a.levels;
      lighter = a.lighter;
    }

-- it may not
pub no_begin : {E : Type 0} (x : CallFrame) (w t : Store) (m : Meter) (r : Result Next E) → false ≡ may_run x.construct (class_of w x.callee) → IfOk r (λ n. Leads (raise NotFunction) 0 w m n t m)
    → IfOk r (λ n. Begins (begin.Call x) w m n t m)
no_begin x w t m (Err e) j h = h
no_begin x w t m (Ok n) j h =
    let a : Leads (raise NotFunction) 0 w m n t m = h in
    record {
      follows = judged m.depth x.construct x.callee x.this x.args w m.steps ∙ rw (← j) (a.follows);
      levels = a.levels;
      lighter = a.lighter;
    }

-- no step is left
pub no_step : (next : Act) (w : Store) (m : Meter) → m.steps ≡ 0 → Leads (bind take_step (λ _. next)) 0 w m Stopped w m
no_step next w m z = record { follows = rw z refl; levels = tt; lighter = tt }

-- a step is taken, and pays for what comes next
pub stepped : {E : Type 0} (next : Act) (w t : Store) (m m1 m2 : Meter) (r : Result Next E) → m.steps ≡ suc m1.steps → m1.depth ≡ m.depth → IfOk r (λ n. Leads next heavy w m1 n t m2)
    → IfOk r (λ n. Leads (bind take_step (λ _. next)) 0 w m n t m2)
stepped next w t m m1 m2 (Err x) s d h = h
stepped next w t m m1 m2 (Ok n) s d h =
    let a : Leads next heavy w m1 n t m2 = h in
    record { follows = rw s (a.follows); levels = rw (← d) (a.levels); lighter = step_pays heavy 0 m m1 n m2 s (le_refl heavy) a.lighter }

levelled : (k : ℕ) (construct : Bool) (f this : Value) (vs : List Value) (w t : Store) (m m1 : Meter) (n : Next) → m.depth ≡ k → k ≢ 0
    → Descends (λ calls. runs calls construct f this vs (class_of w f)) w m n t m1 → Leads (runs_at k construct f this vs (class_of w f)) heavy w m n t m1
levelled zero construct f this vs w t m m1 n e z h = absurd (z refl)
levelled (suc k) construct f this vs w t m m1 n e z h = h k e

-- and a level of depth
pub descended : {E : Type 0} (depth : ℕ) (x : CallFrame) (w t : Store) (m m1 : Meter) (r : Result Next E) → m.depth ≡ depth → m.depth ≢ 0
    → IfOk r (λ n. Descends (λ calls. runs calls x.construct x.callee x.this x.args (class_of w x.callee)) w m n t m1) → IfOk r (λ n. Leads (runs_at depth x.construct x.callee x.this x.args (class_of w x.callee)) heavy w m n t m1)
descended depth x w t m m1 (Err e) d z h = h
descended depth x w t m m1 (Ok n) d z h = rw (← d) (levelled m.depth x.construct x.callee x.this x.args w t m m1 n refl z h)

too_deep : {E : Type 0} (depth : ℕ) (x : CallFrame) (w t : Store) (m : Meter) (r : Result Next E) → m.depth ≡ depth → m.depth ≡ 0 → IfOk r (λ n. Leads (raise TooDeep) heavy w m n t m)
    → IfOk r (λ n. Leads (runs_at depth x.construct x.callee x.this x.args (class_of w x.callee)) heavy w m n t m)
too_deep depth x w t m r d z h = let none : depth ≡ 0 = sym d ∙ z in rw none h

-- no level is left
pub no_level : {E : Type 0} (x : CallFrame) (w t : Store) (m m1 : Meter) (e : Failure Value) (r : Result Next E) → m.steps ≡ suc m1.steps → m1.depth ≡ m.depth → m1.depth ≡ 0
    → Gives itself (λ _. raise TooDeep) w t (Err e) → IsGiven (Err e) r → IfOk r (λ n. Leads (bind take_step (λ _. runs_at m.depth x.construct x.callee x.this x.args (class_of w x.callee))) 0 w m n t m1)
no_level x w t m m1 e r s d z g h =
    stepped (runs_at m.depth x.construct x.callee x.this x.args (class_of w x.callee)) w t m m1 m1 r s d (too_deep m.depth x w t m1 r d z (h (λ _. raise TooDeep) w t heavy m1 g))
