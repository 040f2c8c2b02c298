-- When what a part of a script does stays literal: it leaves a literal page, and ends with a bounded value.
use Rattle.std.specs.Prelude.{ℕ, List, ⊤}
use Rattle.js_values.specs.declared.value.Value.{Value}
use Rattle.page_meaning.specs.Act.{Act, ActOf, Calls, Outcome, Ended, Stopped}
use Rattle.page_meaning.specs.Names.{Here}
use Rattle.page_meaning.specs.Store.{Store}
use Rattle.page_meaning.specs.declared.signal.Signal.{Signal}
use Rattle.page_meaning.specs.declared.signal.Signal.TheVariants as signal
use Rattle.literal_values.specs.Stores.{LiteralStore}
use Rattle.literal_values.specs.Values.{AreBounded, IsBounded}

abbrev pub SignalIs : Signal → Type 0
SignalIs (signal.Value v) = IsBounded v
SignalIs (signal.Thrown v) = IsBounded v
SignalIs (signal.Return v) = IsBounded v
SignalIs s = ⊤

-- nothing is said of it
abbrev pub Any : {A : Type 0} → A → Type 0
Any a = ⊤

-- the page that is left is literal, and so is the result
abbrev pub OutcomeIs : {A : Type 0} → (A → Type 0) → Outcome A → Type 0
OutcomeIs P (Ended a s n) = P a × LiteralStore s
OutcomeIs P (Stopped s) = LiteralStore s

pub record ActIs {A : Type 0} (P : A → Type 0) (act : ActOf A) : Type 0 where
  pub run : (s : Store) (n : ℕ) → LiteralStore s → OutcomeIs P (act.run s n)

-- an act that ends with a signal
abbrev pub Writes : Act → Type 0
Writes act = ActIs SignalIs act

-- what goes on with a bounded value
abbrev pub Continues : (Value → Act) → Type 0
Continues f = (v : Value) → IsBounded v → Writes (f v)

-- what calls and constructions do
pub record CallsAre (calls : Calls) : Type 0 where
  pub call : (f this : Value) (vs : List Value) → IsBounded this → AreBounded vs → Writes (calls.call f this vs)
  pub construct : (f : Value) (vs : List Value) → IsBounded f → AreBounded vs → Writes (calls.construct f vs)

-- where a part of a script stands
abbrev pub HereIs : Here → Type 0
HereIs here = IsBounded here.this
