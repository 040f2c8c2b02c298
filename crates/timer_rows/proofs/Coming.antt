-- What comes of arguments, and then what is done with it.
use Rattle.std.proofs.Common.{◌≡◌, refl, ◌∙◌, ℕ, ◌<◌, ◌≤◌, ℤ, Bool, true, false, List, Option, Some, None, Result, Ok, Err, arith}
use Rattle.std.specs.Prelude.{length, nat_le}
use Rattle.std.specs.Result.{IsErr, IsErrAnd}
use Rattle.std.proofs.lemmas.Bool.Decides.{nat_tests}
use Rattle.js_core.specs.declared.memory.Failure.{Failure}
use Rattle.js_core.specs.declared.memory.Failure.TheVariants as fault
use Rattle.js_values.specs.declared.ids.ObjId.{ObjId}
use Rattle.js_values.specs.declared.throw.Throw.TheVariants.{WrongArgument}
use Rattle.js_values.specs.declared.value.Value.{Value}
use Rattle.js_values.specs.declared.value.Value.TheVariants.{Num}
use Rattle.page_meaning.specs.declared.signal.Signal.TheVariants.{Value as Val}
use Rattle.page_meaning.specs.Act.{Act, Calls, choose}
use Rattle.page_meaning.specs.Convert.{to_number}
use Rattle.page_meaning.specs.Errors.{raise}
use Rattle.page_meaning.specs.FunctionRows.{is_callable}
use Rattle.page_meaning.specs.NodeRows.{object_in, or_wrong, with_callback}
use Rattle.page_meaning.specs.ObjectRows.{argument}
use Rattle.page_meaning.specs.Store.{Store}
use Rattle.page_meaning.specs.TimerRows.{time_in, with_function, with_time}
use Rattle.page_state.specs.Does.{Does, Gives, Raises}
use Rattle.page_state.specs.Finding.{IsFound, IsWrong, function_of, object_if}
use Rattle.timer_rows.specs.Coming.{Comes}

-- the act goes on
pub comes_gives : {A B : Type 0} (act : Calls → (A → Act) → Act) (k : Calls → A → Act) (f : B → Value) (a : A) (s t u : Store) (r : Result B (Failure Value)) → Comes A act s t (Ok a)
    → Gives f (λ c. k c a) t u r → Gives f (λ c. act c (k c)) s u r
comes_gives act k f a s t u (Ok b) h g = record { is = λ c n. h c (k c) n ∙ g.is c n }
comes_gives act k f a s t u (Err (fault.Cause v)) h g = record { is = λ c n. h c (k c) n ∙ g.is c n }
comes_gives act k f a s t u (Err fault.OutOfMemory) h g = tt

fails : {A : Type 0} (act : Calls → (A → Act) → Act) (k : Calls → A → Act) (s t : Store) (e : Failure Value) → Comes A act s t (Err e) → Raises (λ c. act c (k c)) s t e
fails act k s t (fault.Cause v) h = record { is = λ c n. h c (k c) n }
fails act k s t fault.OutOfMemory h = tt

-- it throws, which is handed on
pub comes_fails : {A B : Type 0} (act : Calls → (A → Act) → Act) (k : Calls → A → Act) (f : B → Value) (s t : Store) (e : Failure Value) (r : Result B (Failure Value)) → Comes A act s t (Err e)
    → IsErr r × IsErrAnd r (λ d. d ≡ e) → Gives f (λ c. act c (k c)) s t r
comes_fails act k f s t e (Ok b) h g = cc (g.0)
comes_fails act k f s t e (Err x) h g = rw (g.1) (fails act k s t e h)

-- ---- times

pub time_comes : (vs : List Value) (i : ℕ) (v : Value) (w : Option ℤ) (k : ℕ) (s t : Store) → v ≡ argument vs i → Does (λ calls. to_number calls v) s (Val (Num w)) t → k ≡ time_in w
    → Comes ℕ (λ calls. with_time calls vs i) s t (Ok k)
time_comes vs i v w k s t same d is calls next n = rw (← same) (rw (d.is calls n) (rw is refl))

throws_time : (vs : List Value) (i : ℕ) (s t : Store) (e : Failure Value) → Raises (λ calls. to_number calls (argument vs i)) s t e → Comes ℕ (λ calls. with_time calls vs i) s t (Err e)
throws_time vs i s t (fault.Cause v) d = λ calls next n. rw (d.is calls n) refl
throws_time vs i s t fault.OutOfMemory d = tt

pub time_fails : (vs : List Value) (i : ℕ) (v : Value) (s t : Store) (e : Failure Value) (r : Result ℕ (Failure Value)) → v ≡ argument vs i → Raises (λ calls. to_number calls v) s t e
    → IsErr r × IsErrAnd r (λ d. d ≡ e) → Comes ℕ (λ calls. with_time calls vs i) s t r
time_fails vs i v s t e (Ok k) same d h = cc (h.0)
time_fails vs i v s t e (Err x) same d h = rw (h.1) (throws_time vs i s t e (rw same at d))

-- ---- functions

chosen : (b : Bool) (v : Value) (f : ObjId → Act) → choose b (or_wrong f (object_in v)) (raise WrongArgument) ≡ or_wrong f (object_if b v)
chosen true v f = refl
chosen false v f = refl

callback_is : (v : Value) (f : ObjId → Act) (o : Option ObjId) (s : Store) (n : ℕ) → function_of s v ≡ o → (with_callback v f).run s n ≡ (or_wrong f o).run s n
callback_is v f o s n is = rw (chosen (is_callable v s) v f) (rw is refl)

within : (a b : ℕ) → a ≤ b → nat_le a b ≡ true
within a b h = grind (arith, nat_tests)

beyond : (a b : ℕ) → b < a → nat_le a b ≡ false
beyond a b h = grind (arith, nat_tests)

pub function_comes : (vs : List Value) (most : ℕ) (v : Value) (at : ObjId) (s t : Store) → v ≡ argument vs 0 → IsFound (function_of s v) s at t → length vs ≤ most
    → Comes ObjId (λ _. with_function vs most) s t (Ok at)
function_comes vs most v at s t same k few calls next n =
    callback_is (argument vs 0) (λ f. choose (nat_le (length vs) most) (next f) (raise WrongArgument)) (Some at) s n (rw same at k.found) ∙ rw (within (length vs) most few, k.same) refl

throws_more : (vs : List Value) (most : ℕ) (at : ObjId) (s t : Store) (e : Failure Value) → function_of s (argument vs 0) ≡ Some at → most < length vs → Raises (λ _. raise WrongArgument) s t e
    → Comes ObjId (λ _. with_function vs most) s t (Err e)
throws_more vs most at s t (fault.Cause u) found more r = λ calls next n.
    callback_is (argument vs 0) (λ f. choose (nat_le (length vs) most) (next f) (raise WrongArgument)) (Some at) s n found ∙ rw (beyond (length vs) most more) (r.is calls n)
throws_more vs most at s t fault.OutOfMemory found more r = tt

pub more_fails : (vs : List Value) (most : ℕ) (v : Value) (at : ObjId) (s t u : Store) (e : Failure Value) → v ≡ argument vs 0 → IsFound (function_of s v) s at t → most < length vs
    → Raises (λ _. raise WrongArgument) t u e → Comes ObjId (λ _. with_function vs most) s u (Err e)
more_fails vs most v at s t u e same k more r = throws_more vs most at s u e (rw same at k.found) more (rw k.same at r)

throws_none : (vs : List Value) (most : ℕ) (s t : Store) (e : Failure Value) → function_of s (argument vs 0) ≡ None → Raises (λ _. raise WrongArgument) s t e
    → Comes ObjId (λ _. with_function vs most) s t (Err e)
throws_none vs most s t (fault.Cause u) none r = λ calls next n.
    callback_is (argument vs 0) (λ f. choose (nat_le (length vs) most) (next f) (raise WrongArgument)) None s n none ∙ r.is calls n
throws_none vs most s t fault.OutOfMemory none r = tt

pub none_fails : (vs : List Value) (most : ℕ) (v : Value) (s t : Store) (e : Failure Value) (r : Result ObjId (Failure Value)) → v ≡ argument vs 0 → IsWrong (function_of s v) s e t
    → IsErr r × IsErrAnd r (λ d. d ≡ e) → Comes ObjId (λ _. with_function vs most) s t r
none_fails vs most v s t e (Ok at) same k h = cc (h.0)
none_fails vs most v s t e (Err x) same k h = rw (h.1) (throws_none vs most s t e (rw same at k.none) k.raised)
