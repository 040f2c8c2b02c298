-- Acts are put together.
use Rattle.std.proofs.Common.{ℕ, Bool, true, false}
use Rattle.std.specs.Prelude.{zero, suc}
use Rattle.js_values.specs.declared.value.Value.{Value}
use Rattle.page_meaning.specs.Act.{Act, ActOf, Outcome, Ended, Stopped, also, asking, bind, choose, give, done, on_value, ret, then_on}
use Rattle.page_meaning.specs.Primitives.{stop, take_step}
use Rattle.page_meaning.specs.Store.{Store}
use Rattle.page_meaning.specs.declared.signal.Signal.{Signal}
use Rattle.page_meaning.specs.declared.signal.Signal.TheVariants as signal
use Rattle.literal_values.specs.Stores.{LiteralStore}
use Rattle.literal_values.specs.Values.{IsBounded}
use Rattle.written_pages.specs.Acts.{ActIs, Any, Continues, OutcomeIs, SignalIs, Writes}

-- ---- results and what goes on

pub ret_is : {A : Type 0} {P : A → Type 0} (a : A) → P a → ActIs P (ret a)
ret_is a p = record { run = λ s n l. (p, l) }

pub then_is : {A B : Type 0} {P : A → Type 0} {Q : B → Type 0} (o : Outcome A) (f : A → ActOf B)
    → OutcomeIs P o → ((a : A) → P a → ActIs Q (f a)) → OutcomeIs Q (then_on o f)
then_is (Ended a s n) f h k = (k a h.0).run s n h.1
then_is (Stopped s) f h k = h

pub bind_is : {A B : Type 0} {P : A → Type 0} {Q : B → Type 0} {m : ActOf A} {f : A → ActOf B}
    → ActIs P m → ((a : A) → P a → ActIs Q (f a)) → ActIs Q (bind m f)
bind_is {m = m} {f = f} h k = record { run = λ s n l. then_is (m.run s n) f (h.run s n l) k }

pub asking_is : {A B : Type 0} (P : A → Type 0) {Q : B → Type 0} {f : Store → A} {g : A → ActOf B}
    → ((s : Store) → LiteralStore s → P (f s)) → ((a : A) → P a → ActIs Q (g a)) → ActIs Q (asking f g)
asking_is P {f = f} h k = record { run = λ s n l. (k (f s) (h s l)).run s n l }

-- what is asked does not count
pub asking_any : {A B : Type 0} {Q : B → Type 0} {f : Store → A} {g : A → ActOf B} → ((a : A) → ActIs Q (g a)) → ActIs Q (asking f g)
asking_any {f = f} k = record { run = λ s n l. (k (f s)).run s n l }

pub choose_is : {A : Type 0} {P : A → Type 0} {a b : ActOf A} (c : Bool) → ActIs P a → ActIs P b → ActIs P (choose c a b)
choose_is true h k = h
choose_is false h k = k

pub on_value_is : {f : Value → Act} (a : Signal) → SignalIs a → Continues f → Writes (on_value f a)
on_value_is (signal.Value v) h k = k v h
on_value_is (signal.Thrown v) h k = ret_is (signal.Thrown v) h
on_value_is (signal.Return v) h k = ret_is (signal.Return v) h
on_value_is signal.Break h k = ret_is signal.Break h
on_value_is signal.Continue h k = ret_is signal.Continue h

pub also_is : {m : Act} {f : Value → Act} → Writes m → Continues f → Writes (also m f)
also_is h k = bind_is h (λ a p. on_value_is a p k)

pub give_is : (v : Value) → IsBounded v → Writes (give v)
give_is v h = ret_is (signal.Value v) h

pub done_is : Writes done
done_is = record { run = λ s n l. (tt, l) }

-- ---- primitives

pub stop_is : {A : Type 0} {P : A → Type 0} → ActIs P stop
stop_is = record { run = λ s n l. l }

step_outcome : (s : Store) (n : ℕ) → LiteralStore s → OutcomeIs Any (take_step.run s n)
step_outcome s zero l = l
step_outcome s (suc n) l = (tt, l)

pub step_is : ActIs Any take_step
step_is = record { run = step_outcome }

-- the step comes before what goes on
pub stepped_is : {A : Type 0} {P : A → Type 0} {f : Unit {0} → ActOf A} → ((u : Unit {0}) → ActIs P (f u)) → ActIs P (bind take_step f)
stepped_is k = bind_is step_is (λ u p. k u)
