-- How built-in functions run, by their families.
use Rattle.std.proofs.Common.{◌≡◌, refl, sym, ap, ◌∙◌, ℕ, suc, ◌+◌, ◌<◌, ◌≤◌, ◌-◌, add-one, Bool, true, false, List, [], ◌∷◌, ◌++◌, drop, Result, Ok, Err, IfOk, arith, le_refl}
use Rattle.std.specs.Result.{IsErrAnd}
use Rattle.js_core.specs.declared.memory.OutOfMemory.{OutOfMemory}
use Rattle.js_values.specs.declared.built_in.BuiltIn.{BuiltIn}
use Rattle.js_values.specs.declared.built_in.BuiltIn.TheVariants as built_in
use Rattle.js_values.specs.declared.ids.ObjId.{ObjId}
use Rattle.js_values.specs.declared.throw.Throw.TheVariants.{WrongArgument}
use Rattle.js_values.specs.declared.value.Value.{Value}
use Rattle.js_values.specs.declared.value.Value.TheVariants.{Undefined, Null, Object}
use Rattle.page_meaning.specs.declared.family.RowFamily.{RowFamily}
use Rattle.page_meaning.specs.declared.signal.Signal.{Signal}
use Rattle.page_meaning.specs.declared.signal.Signal.TheVariants.{Value as Val}
use Rattle.page_meaning.specs.Act.{Act, Calls, Ended, Stopped, asking, bind, choose, then_on}
use Rattle.page_meaning.specs.Calls.{calls_at}
use Rattle.page_meaning.specs.Elements.{element_or, length_of, on_list}
use Rattle.page_meaning.specs.Errors.{raise}
use Rattle.page_meaning.specs.FunctionRows.{apply_elements, apply_to, bind_function, bind_to, bound_fit, bound_object, gather, is_callable, list_text, text_maker}
use Rattle.page_meaning.specs.Functions.{object_of}
use Rattle.page_meaning.specs.ObjectRows.{argument}
use Rattle.page_meaning.specs.Primitives.{make}
use Rattle.page_meaning.specs.Rows.{function_row, row_family, row_in, row_of}
use Rattle.page_meaning.specs.Store.{Store}
use Rattle.page_frames.specs.declared.meter.Meter.{Meter}
use Rattle.page_frames.specs.declared.meter.Next.{Next}
use Rattle.page_frames.specs.declared.meter.Next.TheVariants.{Give, Stopped as Halted}
use Rattle.page_frames.specs.Step.{Leads, Lowers}
use Rattle.page_frames.specs.Weight.{heavy}
use Rattle.page_state.specs.declared.turns.Halt.{Halt}
use Rattle.page_state.specs.declared.turns.Halt.TheVariants as halt
use Rattle.js_core.specs.declared.memory.Failure.{Failure}
use Rattle.page_state.specs.Does.{Does, Gives, Raises, itself}
use Rattle.page_state.specs.Turns.{Comes, Ends, Tells}
use Rattle.page_state.proofs.Callers.{asked_does, asked_gives, asked_raises, asked_tells, bind_does, given, no_turn_tells, turn_tells}
use Rattle.step_parts.proofs.Callers.{comes_lower, fewer, lowers_as}
use Rattle.step_visit.specs.Stopping.{Stops}
use Rattle.step_call.specs.Callees.{Descends}

-- the family is known
pub family_runs : {E : Type 0} (construct : Bool) (which : BuiltIn) (this : Value) (vs : List Value) (f g : RowFamily) (w t : Store) (m m1 : Meter) (r : Result Next E) → g ≡ row_family which → g ≡ f
    → IfOk r (λ n. Descends (λ calls. row_in f calls construct which this vs) w m n t m1) → IfOk r (λ n. Descends (λ calls. row_of calls construct which this vs) w m n t m1)
family_runs construct which this vs f g w t m m1 r e is h =
    let known : row_family which ≡ f = sym e ∙ is in
    lowers_as (λ calls. row_of calls construct which this vs) (λ calls. row_in f calls construct which this vs) heavy heavy w t m m1 r
    (λ calls n. ap (λ q. (row_in q calls construct which this vs).run w n) known) (le_refl heavy) h

-- what pays for its turns itself
pub pays_itself : {E : Type 0} (act : Calls → Act) (w t : Store) (m m1 : Meter) (r : Result Next E) → IfOk r (λ n. Lowers 0 act w m n t m1) → IfOk r (λ n. Descends act w m n t m1)
pays_itself act w t m m1 r h = lowers_as act act 0 heavy w t m m1 r (λ calls n. refl) (omega arith) h

-- ---- what was done at once, but for steps that it took

pub turned_gives : (act : Calls → Act) (calls : Calls) (s t : Store) (weight : ℕ) (m m1 : Meter) (g : Signal) → m1.depth ≡ m.depth → Comes act s m.steps (Ended g t m1.steps)
    → Leads (act calls) weight s m (Give g) t m1
turned_gives act calls s t weight m m1 g same c =
    record { follows = c.is calls; levels = same; lighter = fewer (act calls) s t m.steps m1.steps g (c.is calls) }

pub turned_stops : (act : Calls → Act) (calls : Calls) (s t : Store) (weight : ℕ) (m m1 : Meter) → Comes act s m.steps (Stopped t) → Leads (act calls) weight s m Halted t m1
turned_stops act calls s t weight m m1 c = record { follows = c.is calls; levels = tt; lighter = tt }

-- ---- by what is asked

pub asked_runs : {E : Type 0} (f : Value) (may not_so : Calls → Act) (b : Bool) (w t : Store) (m m1 : Meter) (r : Result Next E) → b ≡ is_callable f w → IfOk r (λ n. Descends (λ calls. choose b (may calls) (not_so calls)) w m n t m1)
    → IfOk r (λ n. Descends (λ calls. asking (is_callable f) (λ c. choose c (may calls) (not_so calls))) w m n t m1)
asked_runs f may not_so b w t m m1 r e h =
    lowers_as (λ calls. asking (is_callable f) (λ c. choose c (may calls) (not_so calls))) (λ calls. choose b (may calls) (not_so calls)) heavy heavy w t m m1 r
    (λ calls n. ap (λ c. (choose c (may calls) (not_so calls)).run w n) (sym e)) (le_refl heavy) h

-- a list that is neither undefined nor null must be an array
pub other_list : (calls : Calls) (f this v : Value) → (v ≡ Undefined → ⊥) → (v ≡ Null → ⊥) → apply_to calls f this v ≡ on_list v (apply_elements calls f this)
other_list calls f this Undefined u n = absurd (u refl)
other_list calls f this Null u n = absurd (n refl)
other_list calls f this v u n = refl

pub lists_apply : {E : Type 0} (f this v : Value) (w t : Store) (m m1 : Meter) (r : Result Next E) → (v ≡ Undefined → ⊥) → (v ≡ Null → ⊥)
    → IfOk r (λ n. Descends (λ calls. on_list v (apply_elements calls f this)) w m n t m1) → IfOk r (λ n. Descends (λ calls. apply_to calls f this v) w m n t m1)
lists_apply f this v w t m m1 r u n h =
    lowers_as (λ calls. apply_to calls f this v) (λ calls. on_list v (apply_elements calls f this)) heavy heavy w t m m1 r (λ calls k. ap (λ (a : Act). a.run w k) (other_list calls f this v u n)) (le_refl heavy) h

-- the elements were gathered
pub gathered_apply : {E : Type 0} (f this : Value) (at : ObjId) (length : ℕ) (vs : List Value) (w t : Store) (m mid m1 : Meter) (r : Result Next E) → length ≡ length_of at w → mid.depth ≡ m.depth
    → Comes (λ _. gather at [] 0 length) w m.steps (Ended vs w mid.steps) → IfOk r (λ n. Descends (λ calls. calls.call f this vs) w mid n t m1)
    → IfOk r (λ n. Descends (λ calls. apply_elements calls f this at) w m n t m1)
gathered_apply f this at length vs w t m mid m1 r e same c h =
    lowers_as (λ calls. apply_elements calls f this at) (λ calls. bind (gather at [] 0 length) (calls.call f this)) heavy heavy w t m m1 r
    (λ calls n. ap (λ k. (bind (gather at [] 0 k) (calls.call f this)).run w n) (sym e)) (le_refl heavy)
    (comes_lower (λ _. gather at [] 0 length) (λ calls. calls.call f this) vs heavy w w t m mid m1 r same c h)

-- no step was left for an element
gathering_stops : (f this : Value) (at : ObjId) (length : ℕ) (w : Store) (m m1 : Meter) → length ≡ length_of at w → Comes (λ _. gather at [] 0 length) w m.steps (Stopped w)
    → Descends (λ calls. apply_elements calls f this at) w m Halted w m1
gathering_stops f this at length w m m1 e c d lower =
    record {
      follows =
          ap (λ k. (bind (gather at [] 0 k) ((calls_at d).call f this)).run w m.steps) (sym e)
          ∙ ap (λ o. then_on o ((calls_at d).call f this)) (c.is (calls_at d));
      levels = tt;
      lighter = tt;
    }

pub gathering_halts : (f this : Value) (at : ObjId) (length : ℕ) (h : Halt) (w : Store) (m mid : Meter) (r : Result Next OutOfMemory) → length ≡ length_of at w
    → Tells (λ _. gather at [] 0 length) w m.steps w mid.steps (Err h) → Stops h r → IfOk r (λ n. Descends (λ calls. apply_elements calls f this at) w m n w mid)
gathering_halts f this at length h w m mid (Err e) is told stops = tt
gathering_halts f this at length halt.Stopped w m mid (Ok n) is told stops = rw stops (gathering_stops f this at length w m mid is told)
gathering_halts f this at length (halt.Fault e) w m mid (Ok n) is told stops = absurd stops

-- ---- the list of `apply`, turn by turn

left_of : (k length : ℕ) → k < length → length - k ≡ suc (length - suc k)
left_of k length h = omega (arith, h)

pub none_gathered : (at : ObjId) (vs : List Value) (k length : ℕ) (s : Store) (n j : ℕ) (e : Halt) (r : Result (List Value) Halt) → k < length → n ≡ 0 → e ≡ halt.Stopped → IsErrAnd r (λ d. d ≡ e)
    → Tells (λ _. gather at vs k (length - k)) s n s j r
none_gathered at vs k length s n j e r there is stopped h =
    rw (left_of k length there) (no_turn_tells (λ _. asking (element_or at k) (λ v. gather at (vs ++ v ∷ []) (suc k) (length - suc k))) s n j e r is stopped h)

pub one_gathered : (at : ObjId) (vs more : List Value) (v : Value) (k length : ℕ) (s t : Store) (n i j : ℕ) (r : Result (List Value) Halt) → k < length → n ≡ suc i → v ≡ element_or at k s → more ≡ vs ++ v ∷ []
    → Tells (λ _. gather at more (k + 1) (length - (k + 1))) s i t j r → Tells (λ _. gather at vs k (length - k)) s n t j r
one_gathered at vs more v k length s t n i j r there taken is pushed h =
    let next : Tells (λ _. gather at more (suc k) (length - suc k)) s i t j r = rw (add-one k) at h in
    let with_value : Tells (λ _. gather at (vs ++ v ∷ []) (suc k) (length - suc k)) s i t j r = rw pushed at next in
    rw (left_of k length there)
    (turn_tells (λ _. asking (element_or at k) (λ x. gather at (vs ++ x ∷ []) (suc k) (length - suc k))) s t n i j r taken
    (asked_tells (element_or at k) (λ _ x. gather at (vs ++ x ∷ []) (suc k) (length - suc k)) s t i j r (rw (← is) with_value)))

pub all_gathered : (at : ObjId) (vs : List Value) (k length : ℕ) (s : Store) (n : ℕ) → length ≤ k → Tells (λ _. gather at vs k (length - k)) s n s n (Ok vs)
all_gathered at vs k length s n past = let none : length - k ≡ 0 = omega (arith, past) in rw none (record { is = λ c. refl })

-- ---- what took steps of its own

abbrev pub IsTurned : {E : Type 0} → Result Value Halt → Result Next E → Type 0
IsTurned answer r = (act : Calls → Act) (calls : Calls) (s t : Store) (weight : ℕ) (m m1 : Meter) → m1.depth ≡ m.depth → Ends itself act s m.steps t m1.steps answer → IfOk r (λ n. Leads (act calls) weight s m n t m1)

pub turned_descends : {E : Type 0} (act : Calls → Act) (answer : Result Value Halt) (w t : Store) (m m1 : Meter) (r : Result Next E) → m1.depth ≡ m.depth → Ends itself act w m.steps t m1.steps answer → IsTurned answer r
    → IfOk r (λ n. Descends act w m n t m1)
turned_descends act answer w t m m1 (Err e) same ends h = tt
turned_descends act answer w t m m1 (Ok n) same ends h = λ d lower. h act (calls_at d) w t heavy m m1 same ends

-- ---- the text of an array

pub makes_text : {E : Type 0} (at : ObjId) (f : Value) (w t : Store) (m m1 : Meter) (r : Result Next E) → f ≡ text_maker at w → IfOk r (λ n. Descends (λ calls. calls.call f (Object at) []) w m n t m1)
    → IfOk r (λ n. Descends (λ calls. list_text calls at) w m n t m1)
makes_text at f w t m m1 r e h =
    lowers_as (λ calls. list_text calls at) (λ calls. calls.call f (Object at) []) heavy heavy w t m m1 r
    (λ calls n. ap (λ x. (calls.call x (Object at) []).run w n) (sym e)) (le_refl heavy) h

-- ---- bound functions

pub bound_made : (target : ObjId) (this : Value) (args : List Value) (formals : ℕ) (at : ObjId) (w t : Store) → formals ≡ length_of target w
    → Does (λ _. make (bound_object target this args formals) (bound_fit target this args formals) refl) w at t → Does (λ _. bind_to target this args) w (Val (Object at)) t
bound_made target this args formals at w t e d =
    asked_does (length_of target) (λ _ n. bind (make (bound_object target this args n) (bound_fit target this args n) refl) object_of) (Val (Object at)) w t
    (bind_does (λ _. make (bound_object target this args (length_of target w)) (bound_fit target this args (length_of target w)) refl) (λ _. object_of) at (Val (Object at)) w t t (rw e at d)
    (given (Object at) t))

pub may_bind : (v : Value) (at : ObjId) (vs : List Value) (s t : Store) (r : Result Value (Failure Value)) → v ≡ Object at → true ≡ is_callable v s → Gives itself (λ _. bind_to at (argument vs 0) (drop 1 vs)) s t r
    → Gives itself (λ _. bind_function v vs) s t r
may_bind v at vs s t r is e g =
    let yes : true ≡ is_callable (Object at) s = rw is at e in
    rw is (asked_gives (is_callable (Object at)) (λ _ b. choose b (bind_to at (argument vs 0) (drop 1 vs)) (raise WrongArgument)) itself s t r (rw (← yes) g))

pub may_not_bind : (v : Value) (at : ObjId) (vs : List Value) (s t : Store) (e : Failure Value) → v ≡ Object at → false ≡ is_callable v s → Raises (λ _. raise WrongArgument) s t e → Raises (λ _. bind_function v vs) s t e
may_not_bind v at vs s t e is b g =
    let no : false ≡ is_callable (Object at) s = rw is at b in
    rw is (asked_raises (is_callable (Object at)) (λ _ c. choose c (bind_to at (argument vs 0) (drop 1 vs)) (raise WrongArgument)) s t e (rw (← no) g))

pub none_to_bind : (v : Value) (vs : List Value) (s t : Store) (e : Failure Value) → ((at : ObjId) → v ≡ Object at → ⊥) → Raises (λ _. raise WrongArgument) s t e → Raises (λ _. bind_function v vs) s t e
none_to_bind (Object at) vs s t e none g = absurd (none at refl)
none_to_bind v vs s t e none g = g

-- ---- no other function is one of these

others : (calls : Calls) (which : BuiltIn) (this : Value) (vs : List Value) → (which ≡ built_in.FunctionPrototypeCall → ⊥) → (which ≡ built_in.FunctionPrototypeApply → ⊥) → (which ≡ built_in.FunctionPrototypeBind → ⊥)
    → (which ≡ built_in.ArrayPrototypeToString → ⊥) → function_row calls which this vs ≡ raise WrongArgument
others calls built_in.FunctionPrototypeCall this vs a b c d = absurd (a refl)
others calls built_in.FunctionPrototypeApply this vs a b c d = absurd (b refl)
others calls built_in.FunctionPrototypeBind this vs a b c d = absurd (c refl)
others calls built_in.ArrayPrototypeToString this vs a b c d = absurd (d refl)
others calls which this vs a b c d = refl

pub other_functions : {E : Type 0} (which : BuiltIn) (this : Value) (vs : List Value) (w t : Store) (m m1 : Meter) (r : Result Next E) → (which ≡ built_in.FunctionPrototypeCall → ⊥) → (which ≡ built_in.FunctionPrototypeApply → ⊥)
    → (which ≡ built_in.FunctionPrototypeBind → ⊥) → (which ≡ built_in.ArrayPrototypeToString → ⊥) → IfOk r (λ n. Descends (λ _. raise WrongArgument) w m n t m1)
    → IfOk r (λ n. Descends (λ calls. function_row calls which this vs) w m n t m1)
other_functions which this vs w t m m1 r a b c d h =
    lowers_as (λ calls. function_row calls which this vs) (λ _. raise WrongArgument) heavy heavy w t m m1 r
    (λ calls n. ap (λ (x : Act). x.run w n) (others calls which this vs a b c d)) (le_refl heavy) h
