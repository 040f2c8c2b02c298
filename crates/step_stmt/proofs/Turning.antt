-- A turn that is taken.
use Rattle.std.proofs.Common.{◌≡◌, refl, sym, ◌∙◌, ℕ, suc, true, false, Result, Ok, Err, IfOk, None, le_refl}
use Rattle.code_table.specs.Kind.{kind_of}
use Rattle.js_values.specs.declared.value.Value.{Value}
use Rattle.page_meaning.specs.declared.signal.Signal.{Signal}
use Rattle.page_meaning.specs.Act.{Act, Outcome, Ended, Stopped as OutOfSteps, nothing, then_on}
use Rattle.page_meaning.specs.Calls.{calls_at}
use Rattle.page_meaning.specs.Loops.{turn, turned, turn_if}
use Rattle.page_meaning.specs.Store.{Store}
use Rattle.whole_ops.specs.Conversions.{is_true}
use Rattle.page_frames.specs.declared.meter.Meter.{Meter}
use Rattle.page_frames.specs.declared.meter.Next.{Next}
use Rattle.page_frames.specs.declared.meter.Next.TheVariants.{Give, Stopped}
use Rattle.page_frames.specs.Rest.{rest_signal}
use Rattle.page_frames.specs.Step.{Leads}
use Rattle.page_frames.specs.Where.{Where, here_of, spot_node}
use Rattle.page_frames.proofs.Callers.{step_pays}
use Rattle.step_parts.specs.Running.{Awaits}
use Rattle.step_stmt.specs.Turns.{GoesOnAs, IsPaid, body_of}

-- what comes after is the same by its runs
pub same_after : (o : Outcome Signal) (f g : Signal → Act) → ((s : Signal) (w : Store) (n : ℕ) → (f s).run w n ≡ (g s).run w n) → then_on o f ≡ then_on o g
same_after (Ended s w n) f g e = e s w n
same_after (OutOfSteps w) f g e = refl

pub no_step : (f : Where) (k body : ℕ) (w : Store) (m : Meter) (next : Act) → m.steps ≡ 0 → Leads (turn (body_of f m.depth body) next) 0 w m Stopped w m
no_step f k body w m next z = record { follows = rw z refl; levels = tt; lighter = tt }

pub turn_taken : {E : Type 0} (f : Where) (k body : ℕ) (w : Store) (m m1 : Meter) (r : Result Next E) → IsPaid f k body → m.steps ≡ suc m1.steps → m1.depth ≡ m.depth
    → IfOk r (λ n. Awaits f k None body w m1 n) → (next : Act) → GoesOnAs f k m.depth next → IfOk r (λ n. Leads (turn (body_of f m.depth body) next) 0 w m n w m1)
turn_taken f k body w m m1 (Err x) paid s d h next g = h
turn_taken f k body w m m1 (Ok n) paid s d h next g =
    let a : Awaits f k None body w m1 n = h in
    let g1 : GoesOnAs f k m1.depth next = rw (← d) at g in record {
      follows =
          rw (s, ← d) (sym (same_after ((body_of f m1.depth body).run w m1.steps) (rest_signal (calls_at m1.depth) (here_of f) (spot_node f) (kind_of (spot_node f)) k None) (turned next) g1.is) ∙ a.follows);
      levels = rw (← d) (a.levels);
      lighter = step_pays _ 0 m m1 n m1 s paid a.lighter;
    }

pub turn_yes : {E : Type 0} (f : Where) (body : ℕ) (v : Value) (w : Store) (m m1 : Meter) (r : Result Next E) (next : Act) → is_true v ≡ true
    → IfOk r (λ n. Leads (turn (body_of f m.depth body) next) 0 w m n w m1) → IfOk r (λ n. Leads (turn_if (body_of f m.depth body) next v) 0 w m n w m1)
turn_yes f body v w m m1 (Err x) next e h = h
turn_yes f body v w m m1 (Ok n) next e h = record { follows = rw e h.follows; levels = h.levels; lighter = h.lighter }

pub turn_no : (f : Where) (body : ℕ) (v : Value) (w : Store) (m : Meter) (next : Act) → is_true v ≡ false → Leads (turn_if (body_of f m.depth body) next v) 0 w m (Give nothing) w m
turn_no f body v w m next e = record { follows = rw e refl; levels = refl; lighter = le_refl m.steps }
