-- How a statement goes on, by its kind.
use Rattle.std.proofs.Common.{◌≡◌, ◌≢◌, refl, sym, subst, ℕ, suc, List, Option, true, Result, IfOk, arith}
use Rattle.code_table.specs.Kind.{kind_of}
use Rattle.code_table.specs.Node.{Node}
use Rattle.code_table.specs.declared.kind.Kind.{Kind}
use Rattle.code_table.specs.declared.kind.Kind.TheVariants as kind
use Rattle.js_values.specs.declared.value.Value.{Value}
use Rattle.page_meaning.specs.declared.signal.Signal.{Signal}
use Rattle.page_meaning.specs.declared.signal.Signal.TheVariants.{Value as Val}
use Rattle.page_meaning.specs.Act.{Calls, ret}
use Rattle.page_meaning.specs.Calls.{calls_at}
use Rattle.page_meaning.specs.Names.{Here}
use Rattle.page_meaning.specs.Store.{Store}
use Rattle.page_frames.specs.declared.frame.Frame.TheVariants as frame
use Rattle.page_frames.specs.declared.meter.Meter.{Meter}
use Rattle.page_frames.specs.declared.meter.Next.{Next}
use Rattle.page_frames.specs.declared.meter.Next.TheVariants.{Give}
use Rattle.page_frames.specs.Rest.{rest_signal}
use Rattle.page_frames.specs.RestLoops.{rest_for_in}
use Rattle.page_frames.specs.RestStatements.{rest_try}
use Rattle.page_frames.specs.Step.{Leads, Shifts, Steps}
use Rattle.page_frames.specs.Weight.{weigh, weigh_signal}
use Rattle.page_frames.specs.Where.{Where, here_of, spot_node}
use Rattle.step_stmt.specs.Ends.{takes_values}
use Rattle.step_stmt.proofs.Ending.{ended, hands_on, same_leads}

-- the kind is that of the node
pub shifts_by : {E : Type 0} (f : Where) (q : Kind) (turn : ℕ) (kept : Option Signal) (s : Signal) (w w1 : Store) (m m1 : Meter) (r : Result Next E) → kind_of (spot_node f) ≡ q
    → IfOk r (λ n. Shifts f q turn kept s w m n w1 m1) → IfOk r (λ n. Shifts f (kind_of (spot_node f)) turn kept s w m n w1 m1)
shifts_by f q turn kept s w w1 m m1 r e g = subst (λ k. IfOk r (λ n. Shifts f k turn kept s w m n w1 m1)) (sym e) g

pub steps_by : {E : Type 0} (f : Where) (q : Kind) (turn : ℕ) (kept : Option Signal) (s : Signal) (w w1 : Store) (m m1 : Meter) (r : Result Next E) → kind_of (spot_node f) ≡ q
    → IfOk r (λ n. Shifts f q turn kept s w m n w1 m1) → IfOk r (λ n. Steps (frame.Stmt (record { spot = f; turn = turn; kept = kept })) s w m n w1 m1)
steps_by f q turn kept s w w1 m m1 r e g = shifts_by f q turn kept s w w1 m m1 r e g

-- a `try` at the same place
pub steps_try : {E : Type 0} (f p : Where) (x : Option (List ℕ)) (turn : ℕ) (kept : Option Signal) (s : Signal) (w w1 : Store) (m : Meter) (r : Result Next E) → p ≡ f → kind_of (spot_node f) ≡ kind.Try x
    → IfOk r (λ n. Leads (rest_try (calls_at m.depth) (here_of p) (spot_node p) x turn kept s) (weigh (spot_node p) (suc turn)) w m n w1 m)
    → IfOk r (λ n. Steps (frame.Stmt (record { spot = f; turn = turn; kept = kept })) s w m n w1 m)
steps_try f p x turn kept s w w1 m r e k g =
    steps_by f (kind.Try x) turn kept s w w1 m m r k (subst (λ h. IfOk r (λ n. Leads (rest_try (calls_at m.depth) (here_of h) (spot_node h) x turn kept s) (weigh (spot_node h) (suc turn)) w m n w1 m)) e g)

-- it ends at once
pub shift_ended : (f : Where) (q : Kind) (turn : ℕ) (kept : Option Signal) (s t : Signal) (w : Store) (m : Meter) → kind_of (spot_node f) ≡ q
    → rest_signal (calls_at m.depth) (here_of f) (spot_node f) q turn kept s ≡ ret t → Shifts f (kind_of (spot_node f)) turn kept s w m (Give t) w m
shift_ended f q turn kept s t w m e h =
    subst (λ k. Shifts f k turn kept s w m (Give t) w m) (sym e) (ended (rest_signal (calls_at m.depth) (here_of f) (spot_node f) q turn kept s) t (weigh_signal (spot_node f) q turn) w m h)

-- an end that is handed on
pub shift_passes : (f : Where) (turn : ℕ) (kept : Option Signal) (s : Signal) (w : Store) (m : Meter) → takes_values (kind_of (spot_node f)) ≡ true → ((v : Value) → s ≡ Val v → ⊥)
    → Shifts f (kind_of (spot_node f)) turn kept s w m (Give s) w m
shift_passes f turn kept s w m t h =
    shift_ended f (kind_of (spot_node f)) turn kept s s w m refl (hands_on (calls_at m.depth) (here_of f) (spot_node f) (kind_of (spot_node f)) turn kept s t h)

-- an end that is a value
pub shift_valued : {E : Type 0} (f : Where) (turn : ℕ) (kept : Option Signal) (s : Signal) (v : Value) (w w1 : Store) (m m1 : Meter) (r : Result Next E) → s ≡ Val v
    → IfOk r (λ n. Shifts f (kind_of (spot_node f)) turn kept (Val v) w m n w1 m1) → IfOk r (λ n. Shifts f (kind_of (spot_node f)) turn kept s w m n w1 m1)
shift_valued f turn kept s v w w1 m m1 r e g = subst (λ x. IfOk r (λ n. Shifts f (kind_of (spot_node f)) turn kept x w m n w1 m1)) (sym e) g

-- names that are listed: their loop pays by its steps
pub shift_listed : {E : Type 0} (f : Where) (turn : ℕ) (kept : Option Signal) (v : Value) (w : Store) (m m1 : Meter) (r : Result Next E) → kind_of (spot_node f) ≡ kind.ForIn
    → IfOk r (λ n. Leads (rest_for_in (calls_at m.depth) (here_of f) (spot_node f) v) 0 w m n w m1) → IfOk r (λ n. Shifts f (kind_of (spot_node f)) turn kept (Val v) w m n w m1)
shift_listed f turn kept v w m m1 r e g =
    shifts_by f kind.ForIn turn kept (Val v) w w m m1 r e
    (same_leads (rest_for_in (calls_at m.depth) (here_of f) (spot_node f) v) (rest_for_in (calls_at m.depth) (here_of f) (spot_node f) v) 0 (weigh (spot_node f) (suc turn)) w w m m1 r refl (omega arith) g)

-- a kind that takes values
pub takes : (q : Kind) → q ≢ kind.While → q ≢ kind.Do → q ≢ kind.For → ((x : Option (List ℕ)) → q ≡ kind.Try x → ⊥) → takes_values q ≡ true
takes kind.While w d f t = absurd (w refl)
takes kind.Do w d f t = absurd (d refl)
takes kind.For w d f t = absurd (f refl)
takes (kind.Try x) w d f t = absurd (t x refl)
takes q w d f t = refl

-- what waits for no part gives what it gets
pub waits_not : (calls : Calls) (here : Here) (at : Option Node) (q : Kind) (turn : ℕ) (kept : Option Signal) (s : Signal) → takes_values q ≡ true → q ≢ kind.Var → q ≢ kind.Discard → q ≢ kind.Block → q ≢ kind.If
    → q ≢ kind.ForIn → q ≢ kind.Return → q ≢ kind.Throw → q ≢ kind.Switch → rest_signal calls here at q turn kept s ≡ ret s
waits_not calls here at kind.While turn kept s t v d b i f r h w = cc
waits_not calls here at kind.Do turn kept s t v d b i f r h w = cc
waits_not calls here at kind.For turn kept s t v d b i f r h w = cc
waits_not calls here at (kind.Try x) turn kept s t v d b i f r h w = cc
waits_not calls here at kind.Var turn kept s t v d b i f r h w = absurd (v refl)
waits_not calls here at kind.Discard turn kept s t v d b i f r h w = absurd (d refl)
waits_not calls here at kind.Block turn kept s t v d b i f r h w = absurd (b refl)
waits_not calls here at kind.If turn kept s t v d b i f r h w = absurd (i refl)
waits_not calls here at kind.ForIn turn kept s t v d b i f r h w = absurd (f refl)
waits_not calls here at kind.Return turn kept s t v d b i f r h w = absurd (r refl)
waits_not calls here at kind.Throw turn kept s t v d b i f r h w = absurd (h refl)
waits_not calls here at kind.Switch turn kept s t v d b i f r h w = absurd (w refl)
waits_not calls here at q turn kept s t v d b i f r h w = refl
