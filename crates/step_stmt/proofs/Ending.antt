-- Statements that end at once, and ends that are handed on.
use Rattle.std.proofs.Common.{◌≡◌, ◌≢◌, refl, ap, ◌∙◌, ◌≤◌, ℕ, true, Option, Some, None, Result, Ok, Err, IfOk, le_refl}
use Rattle.code_table.specs.Node.{Node}
use Rattle.code_table.specs.declared.kind.Kind.{Kind}
use Rattle.code_table.specs.declared.kind.Kind.TheVariants as kind
use Rattle.js_values.specs.declared.value.Value.{Value}
use Rattle.page_meaning.specs.declared.signal.Signal.{Signal}
use Rattle.page_meaning.specs.declared.signal.Signal.TheVariants.{Value as Val, Thrown, Return, Break, Continue}
use Rattle.page_meaning.specs.Act.{Act, Calls, on_value, ret}
use Rattle.page_meaning.specs.Loops.{turned}
use Rattle.page_meaning.specs.Names.{Here}
use Rattle.page_meaning.specs.Statements.{unbroken}
use Rattle.page_meaning.specs.Store.{Store}
use Rattle.page_frames.specs.declared.meter.Meter.{Meter}
use Rattle.page_frames.specs.declared.meter.Next.{Next}
use Rattle.page_frames.specs.declared.meter.Next.TheVariants.{Give}
use Rattle.page_frames.specs.Rest.{rest_signal}
use Rattle.page_frames.specs.Step.{Leads}
use Rattle.page_frames.proofs.Callers.{no_heavier}
use Rattle.step_stmt.specs.Ends.{ended_or, takes_values}

-- it ends so
pub ended : (act : Act) (s : Signal) (weight : ℕ) (w : Store) (m : Meter) → act ≡ ret s → Leads act weight w m (Give s) w m
ended act s weight w m e = record { follows = ap (λ (a : Act). a.run w m.steps) e; levels = refl; lighter = le_refl m.steps }

-- another act is the same, and weighs no less
pub same_leads : {E : Type 0} (act other : Act) (weight more : ℕ) (w w1 : Store) (m m1 : Meter) (r : Result Next E) → other.run w m.steps ≡ act.run w m.steps → weight ≤ more
    → IfOk r (λ n. Leads act weight w m n w1 m1) → IfOk r (λ n. Leads other more w m n w1 m1)
same_leads act other weight more w w1 m m1 (Err x) e h g = g
same_leads act other weight more w w1 m m1 (Ok n) e h g = record { follows = e ∙ g.follows; levels = g.levels; lighter = no_heavier weight more m n m1 h g.lighter }

-- what is no value passes what waits for one
pub passes_on : (f : Value → Act) (s : Signal) → ((v : Value) → s ≡ Val v → ⊥) → on_value f s ≡ ret s
passes_on f (Val v) h = absurd (h v refl)
passes_on f (Thrown v) h = refl
passes_on f (Return v) h = refl
passes_on f Break h = refl
passes_on f Continue h = refl

-- a loop ends with an exception and with a return
pub ends_loop : (s : Signal) (next : Act) → ((v : Value) → s ≡ Val v → ⊥) → s ≢ Continue → s ≢ Break → turned next s ≡ ret s
ends_loop (Val v) next h c b = absurd (h v refl)
ends_loop (Thrown v) next h c b = refl
ends_loop (Return v) next h c b = refl
ends_loop Break next h c b = absurd (b refl)
ends_loop Continue next h c b = absurd (c refl)

pub no_break : (s : Signal) → s ≢ Break → s ≡ unbroken s
no_break (Val v) h = refl
no_break (Thrown v) h = refl
no_break (Return v) h = refl
no_break Break h = absurd (h refl)
no_break Continue h = refl

-- a loop goes on, or has ended
pub turns_on : {E : Type 0} (s : Signal) (o : Option Signal) (next : Act) (weight : ℕ) (w w1 : Store) (m m1 : Meter) (r : Result Next E) → turned next s ≡ ended_or o next → o ≡ None
    → IfOk r (λ n. Leads next weight w m n w1 m1) → IfOk r (λ n. Leads (turned next s) weight w m n w1 m1)
turns_on s o next weight w w1 m m1 r e z g = same_leads next (turned next s) weight weight w w1 m m1 r (ap (λ (a : Act). a.run w m.steps) (rw z at e)) (le_refl weight) g

pub turns_end : (s last : Signal) (o : Option Signal) (next : Act) (weight : ℕ) (w : Store) (m : Meter) → turned next s ≡ ended_or o next → o ≡ Some last → Leads (turned next s) weight w m (Give last) w m
turns_end s last o next weight w m e z = ended (turned next s) last weight w m (rw z at e)

-- a kind that takes values hands other ends on
pub hands_on : (calls : Calls) (here : Here) (at : Option Node) (q : Kind) (turn : ℕ) (kept : Option Signal) (s : Signal) → takes_values q ≡ true → ((v : Value) → s ≡ Val v → ⊥)
    → rest_signal calls here at q turn kept s ≡ ret s
hands_on calls here at kind.While turn kept s t h = cc
hands_on calls here at kind.Do turn kept s t h = cc
hands_on calls here at kind.For turn kept s t h = cc
hands_on calls here at (kind.Try x) turn kept s t h = cc
hands_on calls here at kind.Var turn kept s t h = passes_on _ s h
hands_on calls here at kind.Discard turn kept s t h = passes_on _ s h
hands_on calls here at kind.Block turn kept s t h = passes_on _ s h
hands_on calls here at kind.If turn kept s t h = passes_on _ s h
hands_on calls here at kind.ForIn turn kept s t h = passes_on _ s h
hands_on calls here at kind.Return turn kept s t h = passes_on _ s h
hands_on calls here at kind.Throw turn kept s t h = passes_on _ s h
hands_on calls here at kind.Switch turn kept s t h = passes_on _ s h
hands_on calls here at q turn kept s t h = refl
