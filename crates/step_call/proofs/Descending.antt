-- What runs of a function that is called or constructed.
use Rattle.std.proofs.Common.{◌≡◌, refl, ap, ◌∙◌, ℕ, suc, ◌+◌, ◌-◌, ◌≤◌, Bool, true, false, List, Option, Some, None, Result, Ok, Err, IfOk, arith}
use Rattle.code_table.specs.Node.{block_node, body_of}
use Rattle.js_core.specs.Tree as tree
use Rattle.js_values.specs.declared.built_in.BuiltIn.{BuiltIn}
use Rattle.js_values.specs.declared.ids.EnvId.{EnvId}
use Rattle.js_values.specs.declared.ids.ObjId.{ObjId}
use Rattle.js_values.specs.declared.throw.Throw.TheVariants.{NotFunction}
use Rattle.js_values.specs.declared.value.Value.{Value}
use Rattle.js_values.specs.declared.value.Value.TheVariants.{Object}
use Rattle.object_heap.specs.declared.object.Class.{Class}
use Rattle.object_heap.specs.declared.object.Class.TheVariants.{Page, Native, Bound}
use Rattle.page_meaning.specs.declared.signal.Signal.{Signal}
use Rattle.page_meaning.specs.declared.signal.Signal.TheVariants.{Value as Val, Thrown, Return, Break, Continue}
use Rattle.page_meaning.specs.Act.{Act, Calls, Outcome, Ended, Stopped, bind, give, on_value, ret, then_on}
use Rattle.page_meaning.specs.Calls.{build, built, called, calls_at, constructed}
use Rattle.page_meaning.specs.Errors.{raise}
use Rattle.page_meaning.specs.Functions.{call_end, enter}
use Rattle.page_meaning.specs.Properties.{class_at, class_of}
use Rattle.page_meaning.specs.Statements.{exec_all}
use Rattle.page_meaning.specs.Store.{Store}
use Rattle.page_frames.specs.declared.frame.Begin.TheVariants as begin
use Rattle.page_frames.specs.declared.frame.CallFrame.{CallFrame}
use Rattle.page_frames.specs.declared.frame.Frame.TheVariants as frame
use Rattle.page_frames.specs.declared.meter.Meter.{Meter}
use Rattle.page_frames.specs.declared.meter.Next.{Next}
use Rattle.page_frames.specs.declared.meter.Next.TheVariants.{Then}
use Rattle.page_frames.specs.RestCalls.{ended, mean_call, with_fresh}
use Rattle.page_frames.specs.Step.{Leads}
use Rattle.page_frames.specs.Weight.{HasFewNodes, cost, heavy, load}
use Rattle.page_frames.specs.Where.{Where, spot_node}
use Rattle.page_frames.proofs.Callers.{body_paid}
use Rattle.js_core.specs.declared.memory.Failure.{Failure}
use Rattle.js_core.specs.declared.memory.Failure.TheVariants as fault
use Rattle.page_state.specs.Does.{Does, Gives, itself}
use Rattle.page_state.specs.Entry.{entered}
use Rattle.page_state.specs.Functions.{fresh_for}
use Rattle.page_state.proofs.Callers.{build_goes, enter_goes}
use Rattle.step_parts.proofs.Callers.{IsGiven, gives_lower}
use Rattle.step_call.specs.Callees.{Descends, runs}

-- ---- the body of a function

ended_twice : (o : Outcome Signal) (fresh : Option Value) → then_on (then_on o (λ s. ret (call_end s))) (λ s. ret (with_fresh fresh s)) ≡ then_on o (λ s. ret (ended true fresh s))
ended_twice (Ended s w n) fresh = refl
ended_twice (Stopped w) fresh = refl

paid_body : (steps weight : ℕ) → suc 0 + suc weight ≤ heavy → load steps (suc 0 + suc weight) ≤ load steps heavy
paid_body steps weight h = omega (arith, h)

-- the body runs, and a frame waits for its end
pub body_enters : (c : tree.Code) (env : Option EnvId) (this : Value) (args : List Value) (fresh : Option Value) (e : EnvId) (body : Where) (w t : Store) (m m1 : Meter) → Does (λ _. entered c env args) w e t
    → body.code ≡ c → body.env ≡ Some e → body.this ≡ this → spot_node body ≡ Some (block_node (body_of c)) → HasFewNodes body.code → m1.steps ≡ m.steps → m1.depth ≡ m.depth - 1
    → Descends (λ calls. bind (enter (exec_all calls) c env this args) (λ s. ret (with_fresh fresh s))) w m (Then (frame.Called (record { body = true; fresh = fresh })) (begin.Node body)) t m1
body_enters c env this args fresh e body w t m m1 d in_code in_env on node few steps depth k lower =
    let under : m1.depth ≡ k = omega (arith, depth, lower) in
    let paid : suc 0 + suc (cost (spot_node body)) ≤ heavy = body_paid body.code body.node few in
    record {
      follows =
          rw (node, in_env, on, under, steps)
          (ap (λ o. then_on o (λ s. ret (with_fresh fresh s))) (enter_goes (exec_all (calls_at k)) c env this args e w t (calls_at k) m.steps d)
          ∙ ended_twice ((exec_all (calls_at k) (record { env = Some e; this = this }) (body_of c)).run t m.steps) fresh);
      levels = omega (arith, under, lower);
      lighter = rw steps (paid_body m.steps (cost (spot_node body)) paid);
    }

no_fresh : (o : Outcome Signal) → o ≡ then_on o (λ s. ret (with_fresh None s))
no_fresh (Ended (Val v) w n) = refl
no_fresh (Ended (Thrown v) w n) = refl
no_fresh (Ended (Return v) w n) = refl
no_fresh (Ended Break w n) = refl
no_fresh (Ended Continue w n) = refl
no_fresh (Stopped w) = refl

-- a call has no fresh object
pub page_called : {E : Type 0} (act : Calls → Act) (w t : Store) (m m1 : Meter) (r : Result Next E) → IfOk r (λ n. Descends (λ calls. bind (act calls) (λ s. ret (with_fresh None s))) w m n t m1)
    → IfOk r (λ n. Descends act w m n t m1)
page_called act w t m m1 (Err x) h = h
page_called act w t m m1 (Ok n) h = λ k lower.
    let a : Leads (bind (act (calls_at k)) (λ s. ret (with_fresh None s))) heavy w m n t m1 = h k lower in
    record { follows = no_fresh ((act (calls_at k)).run w m.steps) ∙ a.follows; levels = a.levels; lighter = a.lighter }

with_made : (o : Outcome Signal) (made : ObjId) → then_on o (on_value (λ v. give (built made v))) ≡ then_on o (λ s. ret (with_fresh (Some (Object made)) s))
with_made (Ended (Val v) w n) made = refl
with_made (Ended (Thrown v) w n) made = refl
with_made (Ended (Return v) w n) made = refl
with_made (Ended Break w n) made = refl
with_made (Ended Continue w n) made = refl
with_made (Stopped w) made = refl

-- a construction has one
pub page_constructed : {E : Type 0} (at : ObjId) (c : tree.Code) (env : Option EnvId) (args : List Value) (made : ObjId) (w s t : Store) (m m1 : Meter) (r : Result Next E) → Does (λ _. fresh_for at) w made s
    → IfOk r (λ n. Descends (λ calls. bind (enter (exec_all calls) c env (Object made) args) (λ s. ret (with_fresh (Some (Object made)) s))) s m n t m1)
    → IfOk r (λ n. Descends (λ calls. build calls (Object at) c env args) w m n t m1)
page_constructed at c env args made w s t m m1 (Err x) d h = h
page_constructed at c env args made w s t m m1 (Ok n) d h = λ k lower.
    let a : Leads (bind (enter (exec_all (calls_at k)) c env (Object made) args) (λ s. ret (with_fresh (Some (Object made)) s))) heavy s m n t m1 = h k lower in
    record {
      follows =
          build_goes (calls_at k) at c env args made w s m.steps d
          ∙ with_made ((enter (exec_all (calls_at k)) c env (Object made) args).run s m.steps) made ∙ a.follows;
      levels = a.levels;
      lighter = a.lighter;
    }

-- ---- what is done at once

pub at_once : {E : Type 0} (act : Calls → Act) (answer : Result Value (Failure Value)) (w t : Store) (m : Meter) (r : Result Next E) → Gives itself act w t answer → IsGiven answer r → IfOk r (λ n. Descends act w m n t m)
at_once act answer w t m r g h = gives_lower act answer heavy w t m r g h

-- ---- bound functions

same_end : (o : Outcome Signal) → o ≡ then_on o (λ s. ret (ended false None s))
same_end (Ended s w n) = refl
same_end (Stopped w) = refl

heavy_enough : 2 ≤ heavy
unfolding heavy
heavy_enough = omega arith

paid_call : (steps : ℕ) → load steps 2 ≤ load steps heavy
paid_call steps = omega (arith, heavy_enough)

pub bound_calls : (x : CallFrame) (construct : Bool) (callee this : Value) (args : List Value) (w : Store) (m m1 : Meter) → x ≡ record { construct = construct; callee = callee; this = this; args = args } → m1.steps ≡ m.steps → m1.depth ≡ m.depth - 1
    → Descends (λ calls. mean_call calls construct callee this args) w m (Then (frame.Called (record { body = false; fresh = None })) (begin.Call x)) w m1
bound_calls x construct callee this args w m m1 is steps depth k lower =
    let under : m1.depth ≡ k = omega (arith, depth, lower) in
    rw is (record {
      follows = rw (under, steps) (same_end ((mean_call (calls_at k) construct callee this args).run w m.steps));
      levels = omega (arith, under, lower);
      lighter = rw steps (paid_call m.steps);
    })

-- ---- by class

pub descends_as : {E : Type 0} (a b : Calls → Act) (w t : Store) (m m1 : Meter) (r : Result Next E) → ((calls : Calls) → a calls ≡ b calls) → IfOk r (λ n. Descends b w m n t m1) → IfOk r (λ n. Descends a w m n t m1)
descends_as a b w t m m1 (Err x) e h = h
descends_as a b w t m m1 (Ok n) e h = λ k lower.
    let l : Leads (b (calls_at k)) heavy w m n t m1 = h k lower in
    record { follows = ap (λ (x : Act). x.run w m.steps) (e (calls_at k)) ∙ l.follows; levels = l.levels; lighter = l.lighter }

abbrev NoFunction : Class → Type 0
NoFunction c = ((f : tree.Code) (env : Option EnvId) → c ≡ Page f env → ⊥) × (((which : BuiltIn) → c ≡ Native which → ⊥) × ((target : ObjId) (own : Value) (args : List Value) → c ≡ Bound target own args → ⊥))

never_called : (calls : Calls) (this : Value) (vs : List Value) (c : Class) → NoFunction c → called calls this vs (Some c) ≡ raise NotFunction
never_called calls this vs (Page g env) h = absurd (h.0 g env refl)
never_called calls this vs (Native which) h = absurd (h.1.0 which refl)
never_called calls this vs (Bound target own args) h = absurd (h.1.1 target own args refl)
never_called calls this vs c h = refl

never_constructed : (calls : Calls) (f : Value) (vs : List Value) (c : Class) → NoFunction c → constructed calls f vs (Some c) ≡ raise NotFunction
never_constructed calls f vs (Page g env) h = absurd (h.0 g env refl)
never_constructed calls f vs (Native which) h = absurd (h.1.0 which refl)
never_constructed calls f vs (Bound target own args) h = absurd (h.1.1 target own args refl)
never_constructed calls f vs c h = refl

abbrev CallDescends : Value → List Value → Class → Store → Meter → Next → Store → Meter → Type 0
CallDescends this vs c w m n t m1 = Descends (λ calls. called calls this vs (Some c)) w m n t m1

abbrev BuildDescends : Value → List Value → Class → Store → Meter → Next → Store → Meter → Type 0
BuildDescends f vs c w m n t m1 = Descends (λ calls. constructed calls f vs (Some c)) w m n t m1

-- the class is known
pub called_as : {E : Type 0} (this : Value) (vs : List Value) (c d : Class) (w t : Store) (m m1 : Meter) (r : Result Next E) → c ≡ d → IfOk r (λ n. CallDescends this vs d w m n t m1) → IfOk r (λ n. CallDescends this vs c w m n t m1)
called_as this vs c d w t m m1 r e h = rw e h

pub constructed_as : {E : Type 0} (f : Value) (vs : List Value) (c d : Class) (w t : Store) (m m1 : Meter) (r : Result Next E) → c ≡ d → IfOk r (λ n. BuildDescends f vs d w m n t m1) → IfOk r (λ n. BuildDescends f vs c w m n t m1)
constructed_as f vs c d w t m m1 r e h = rw e h

-- what is no function throws
pub call_refused : {E : Type 0} (this : Value) (vs : List Value) (c : Class) (w t : Store) (m : Meter) (e : Failure Value) (r : Result Next E) → NoFunction c → Gives itself (λ _. raise NotFunction) w t (Err e) → IsGiven (Err e) r
    → IfOk r (λ n. CallDescends this vs c w m n t m)
call_refused this vs c w t m e r none g h =
    descends_as (λ calls. called calls this vs (Some c)) (λ _. raise NotFunction) w t m m r (λ calls. never_called calls this vs c none) (at_once (λ _. raise NotFunction) (Err e) w t m r g h)

pub construction_refused : {E : Type 0} (f : Value) (vs : List Value) (c : Class) (w t : Store) (m : Meter) (e : Failure Value) (r : Result Next E) → NoFunction c → Gives itself (λ _. raise NotFunction) w t (Err e) → IsGiven (Err e) r
    → IfOk r (λ n. BuildDescends f vs c w m n t m)
construction_refused f vs c w t m e r none g h =
    descends_as (λ calls. constructed calls f vs (Some c)) (λ _. raise NotFunction) w t m m r (λ calls. never_constructed calls f vs c none) (at_once (λ _. raise NotFunction) (Err e) w t m r g h)

-- ---- what is called or constructed

abbrev RunDescends : Bool → Value → Value → List Value → Option Class → Store → Meter → Next → Store → Meter → Type 0
RunDescends construct f this vs c w m n t m1 = Descends (λ calls. runs calls construct f this vs c) w m n t m1

pub object_runs : {E : Type 0} (construct : Bool) (f this : Value) (vs : List Value) (at : ObjId) (w t : Store) (m m1 : Meter) (r : Result Next E) → f ≡ Object at
    → IfOk r (λ n. RunDescends construct (Object at) this vs (Some (class_at w at)) w m n t m1) → IfOk r (λ n. RunDescends construct f this vs (class_of w f) w m n t m1)
object_runs construct f this vs at w t m m1 r e h = rw e h

pub object_built : {E : Type 0} (construct : Bool) (this : Value) (vs : List Value) (at : ObjId) (w t : Store) (m m1 : Meter) (r : Result Next E) → construct ≡ true
    → IfOk r (λ n. BuildDescends (Object at) vs (class_at w at) w m n t m1) → IfOk r (λ n. RunDescends construct (Object at) this vs (Some (class_at w at)) w m n t m1)
object_built construct this vs at w t m m1 r e h = rw e h

pub object_called : {E : Type 0} (construct : Bool) (this : Value) (vs : List Value) (at : ObjId) (w t : Store) (m m1 : Meter) (r : Result Next E) → construct ≡ false
    → IfOk r (λ n. CallDescends this vs (class_at w at) w m n t m1) → IfOk r (λ n. RunDescends construct (Object at) this vs (Some (class_at w at)) w m n t m1)
object_called construct this vs at w t m m1 r e h = rw e h

never_runs : (calls : Calls) (construct : Bool) (f this : Value) (vs : List Value) (w : Store) → ((at : ObjId) → f ≡ Object at → ⊥) → runs calls construct f this vs (class_of w f) ≡ raise NotFunction
never_runs calls false (Object at) this vs w h = absurd (h at refl)
never_runs calls true (Object at) this vs w h = absurd (h at refl)
never_runs calls false f this vs w h = refl
never_runs calls true f this vs w h = refl

-- what is no object throws
pub value_refused : {E : Type 0} (construct : Bool) (f this : Value) (vs : List Value) (w t : Store) (m : Meter) (e : Failure Value) (r : Result Next E) → ((at : ObjId) → f ≡ Object at → ⊥)
    → Gives itself (λ _. raise NotFunction) w t (Err e) → IsGiven (Err e) r → IfOk r (λ n. RunDescends construct f this vs (class_of w f) w m n t m)
value_refused construct f this vs w t m e r other g h =
    descends_as (λ calls. runs calls construct f this vs (class_of w f)) (λ _. raise NotFunction) w t m m r (λ calls. never_runs calls construct f this vs w other)
    (at_once (λ _. raise NotFunction) (Err e) w t m r g h)
