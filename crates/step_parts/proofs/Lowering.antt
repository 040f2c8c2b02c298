-- What has a level of depth less for its own calls.
use Rattle.std.proofs.Common.{◌≡◌, refl, ℕ, suc, ◌∙◌, ◌≤◌, Option, Some, None, Result, Ok, Err, IfOk, le_refl}
use Rattle.js_values.specs.declared.ids.ObjId.{ObjId}
use Rattle.js_values.specs.declared.throw.Throw.TheVariants.{WrongArgument}
use Rattle.js_values.specs.declared.value.Value.{Value}
use Rattle.page_meaning.specs.declared.signal.Signal.TheVariants.{Value as Val, Thrown}
use Rattle.page_meaning.specs.Act.{Act, ActOf, Calls, Ended, asking, bind, then_on}
use Rattle.page_meaning.specs.Calls.{calls_at}
use Rattle.page_meaning.specs.Elements.{list_in, on_list}
use Rattle.page_meaning.specs.Errors.{raise}
use Rattle.page_meaning.specs.Store.{Store}
use Rattle.page_frames.specs.declared.meter.Meter.{Meter}
use Rattle.page_frames.specs.declared.meter.Next.{Next}
use Rattle.page_frames.specs.declared.meter.Next.TheVariants.{Give, Stopped as Halted}
use Rattle.page_frames.specs.Step.{Leads, Lowers}
use Rattle.page_frames.proofs.Callers.{lighter_before, no_heavier}
use Rattle.js_core.specs.declared.memory.Failure.{Failure}
use Rattle.js_core.specs.declared.memory.Failure.TheVariants as fault
use Rattle.page_state.specs.Does.{Does, Gives, itself}
use Rattle.page_state.specs.Turns.{Comes}
use Rattle.step_parts.proofs.Leading.{fewer}

-- an act that runs as another does, and may weigh more
pub lowers_as : {E : Type 0} (a b : Calls → Act) (u v : ℕ) (w t : Store) (m m1 : Meter) (r : Result Next E) → ((calls : Calls) (n : ℕ) → (a calls).run w n ≡ (b calls).run w n) → u ≤ v
    → IfOk r (λ n. Lowers u b w m n t m1) → IfOk r (λ n. Lowers v a w m n t m1)
lowers_as a b u v w t m m1 (Err x) e le h = h
lowers_as a b u v w t m m1 (Ok n) e le h = λ d lower.
    let l : Leads (b (calls_at d)) u w m n t m1 = h d lower in
    record { follows = e (calls_at d) m.steps ∙ l.follows; levels = l.levels; lighter = no_heavier u v m n m1 le l.lighter }

-- what is done at once and takes no step
pub does_lower : {A E : Type 0} (a : Calls → ActOf A) (k : Calls → A → Act) (x : A) (u : ℕ) (s t v : Store) (m m1 : Meter) (r : Result Next E) → Does a s x t
    → IfOk r (λ n. Lowers u (λ calls. k calls x) t m n v m1) → IfOk r (λ n. Lowers u (λ calls. bind (a calls) (k calls)) s m n v m1)
does_lower a k x u s t v m m1 (Err e) does h = h
does_lower a k x u s t v m m1 (Ok n) does h = λ d lower.
    let l : Leads (k (calls_at d) x) u t m n v m1 = h d lower in
    record { follows = rw (does.is (calls_at d) m.steps) (l.follows); levels = l.levels; lighter = l.lighter }

-- and what takes steps
pub comes_lower : {A E : Type 0} (a : Calls → ActOf A) (k : Calls → A → Act) (x : A) (u : ℕ) (s t v : Store) (m mid m1 : Meter) (r : Result Next E) → mid.depth ≡ m.depth → Comes a s m.steps (Ended x t mid.steps)
    → IfOk r (λ n. Lowers u (λ calls. k calls x) t mid n v m1) → IfOk r (λ n. Lowers u (λ calls. bind (a calls) (k calls)) s m n v m1)
comes_lower a k x u s t v m mid m1 (Err e) same comes h = h
comes_lower a k x u s t v m mid m1 (Ok n) same comes h = λ d lower.
    let l : Leads (k (calls_at d) x) u t mid n v m1 = h d (same ∙ lower) in
    record {
      follows = rw (comes.is (calls_at d)) (l.follows);
      levels = rw (← same) (l.levels);
      lighter = lighter_before u m mid n m1 (fewer (a (calls_at d)) s t m.steps mid.steps x (comes.is (calls_at d))) l.lighter;
    }

-- ---- what must be an array

pub on_the_list : {E : Type 0} (v : Value) (f : Calls → ObjId → Act) (at : ObjId) (u : ℕ) (w t : Store) (m m1 : Meter) (r : Result Next E) → Some at ≡ list_in v w
    → IfOk r (λ n. Lowers u (λ calls. f calls at) w m n t m1) → IfOk r (λ n. Lowers u (λ calls. on_list v (f calls)) w m n t m1)
on_the_list v f at u w t m m1 r e h =
    lowers_as (λ calls. on_list v (f calls)) (λ calls. f calls at) u u w t m m1 r (λ calls n. rw (← e) refl) (le_refl u) h

pub on_no_list : {E : Type 0} (v : Value) (f : Calls → ObjId → Act) (u : ℕ) (w t : Store) (m m1 : Meter) (r : Result Next E) → None ≡ list_in v w
    → IfOk r (λ n. Lowers u (λ _. raise WrongArgument) w m n t m1) → IfOk r (λ n. Lowers u (λ calls. on_list v (f calls)) w m n t m1)
on_no_list v f u w t m m1 r e h =
    lowers_as (λ calls. on_list v (f calls)) (λ _. raise WrongArgument) u u w t m m1 r (λ calls n. rw (← e) refl) (le_refl u) h

-- ---- what is given

with_calls : (act : Calls → Act) (calls : Calls) (w t : Store) (answer : Result Value (Failure Value)) → Gives itself act w t answer → Gives itself (λ _. act calls) w t answer
with_calls act calls w t (Ok v) g = record { is = λ _ n. g.is calls n }
with_calls act calls w t (Err (fault.Cause v)) g = record { is = λ _ n. g.is calls n }
with_calls act calls w t (Err fault.OutOfMemory) g = tt

abbrev pub IsGiven : {E : Type 0} → Result Value (Failure Value) → Result Next E → Type 0
IsGiven answer r = (act : Calls → Act) (s t : Store) (weight : ℕ) (m : Meter) → Gives itself act s t answer → IfOk r (λ n. Leads (act (calls_at m.depth)) weight s m n t m)

pub gives_lower : {E : Type 0} (act : Calls → Act) (answer : Result Value (Failure Value)) (weight : ℕ) (w t : Store) (m : Meter) (r : Result Next E) → Gives itself act w t answer → IsGiven answer r
    → IfOk r (λ n. Lowers weight act w m n t m)
gives_lower act answer weight w t m (Err x) g h = tt
gives_lower act answer weight w t m (Ok n) g h = λ d lower. h (λ _. act (calls_at d)) w t weight m (with_calls act (calls_at d) w t answer g)
