-- Meaning: acts, which is what parts of scripts do to a page with so many steps left. An act is a function of the page and the steps,
-- with the proof of what none of them undoes. Only primitives prove it.
use Rattle.std.specs.Prelude.{ℕ, ◌≤◌, Bool, true, false, List}
use Rattle.std.proofs.Common.{le_refl, le_trans}
use Rattle.js_values.specs.declared.value.Value.{Value}
use Rattle.js_values.specs.declared.value.Value.TheVariants.{Undefined}
use Rattle.page_meaning.specs.declared.signal.Signal.{Signal}
use Rattle.page_meaning.specs.declared.signal.Signal.TheVariants.{Value as Val, Thrown, Return, Break, Continue}
use Rattle.page_meaning.specs.Kept.{Keeps, keeps_all, keeps_on}
use Rattle.page_meaning.specs.Store.{Store}

-- how an act ends: with a result and the steps left, or because a step was to be taken and none was left
pub data Outcome (A : Type 0) : Type 0 where
  Ended : A → Store → ℕ → Outcome A
  Stopped : Store → Outcome A

abbrev pub LeadsTo : {A : Type 0} → Store → ℕ → Outcome A → Type 0
LeadsTo s n (Ended a t m) = (m ≤ n) × Keeps s t
LeadsTo s n (Stopped t) = Keeps s t

pub record ActOf (A : Type 0) : Type 0 where
  pub run : Store → ℕ → Outcome A
  pub leads : (s : Store) (n : ℕ) → LeadsTo s n (run s n)

-- what a part of a script does: it ends with a signal
abbrev pub Act : Type 0
Act = ActOf Signal

-- what calling and constructing a value do, with the arguments; what may call back takes it as a parameter
pub record Calls : Type 0 where
  pub call : Value → Value → List Value → Act
  pub construct : Value → List Value → Act

abbrev pub then_on : {A B : Type 0} → Outcome A → (A → ActOf B) → Outcome B
then_on (Ended a s n) f = (f a).run s n
then_on (Stopped s) f = Stopped s

pub leads_then : {A : Type 0} (s : Store) (n : ℕ) (t : Store) (m : ℕ) (o : Outcome A) → m ≤ n → Keeps s t → LeadsTo t m o → LeadsTo s n o
leads_then s n t m (Ended a u k) h f g = (le_trans g.0 h, keeps_on s t u f g.1)
leads_then s n t m (Stopped u) h f g = keeps_on s t u f g

pub then_leads : {A B : Type 0} (s : Store) (n : ℕ) (o : Outcome A) (f : A → ActOf B) → LeadsTo s n o → LeadsTo s n (then_on o f)
then_leads s n (Ended a t m) f g = leads_then s n t m ((f a).run t m) g.0 g.1 ((f a).leads t m)
then_leads s n (Stopped t) f g = g

abbrev pub ret : {A : Type 0} → A → ActOf A
ret a = record { run = λ s n. Ended a s n; leads = λ s n. (le_refl n, keeps_all s) }

abbrev pub bind : {A B : Type 0} → ActOf A → (A → ActOf B) → ActOf B
bind m f = record { run = λ s n. then_on (m.run s n) f; leads = λ s n. then_leads s n (m.run s n) f (m.leads s n) }

-- goes on with what the store tells
abbrev pub asking : {A B : Type 0} → (Store → A) → (A → ActOf B) → ActOf B
asking f g = record { run = λ s n. (g (f s)).run s n; leads = λ s n. (g (f s)).leads s n }

abbrev pub choose : {A : Type 0} → Bool → ActOf A → ActOf A → ActOf A
choose true a b = a
choose false a b = b

abbrev pub give : Value → Act
give v = ret (Val v)

-- the end of a statement that ends by itself
abbrev pub nothing : Signal
nothing = Val Undefined

abbrev pub done : Act
done = ret nothing

-- goes on with a value, and hands any other signal on
abbrev pub on_value : (Value → Act) → Signal → Act
on_value f (Val v) = f v
on_value f (Thrown v) = ret (Thrown v)
on_value f (Return v) = ret (Return v)
on_value f Break = ret Break
on_value f Continue = ret Continue

abbrev pub also : Act → (Value → Act) → Act
also m f = bind m (on_value f)

-- for `do`
abbrev pub ◌>>=◌ : Act → (Value → Act) → Act
◌>>=◌ m f = also m f
