-- A part that runs as a frame, and one that is read at once.
use Rattle.std.proofs.Common.{◌≡◌, refl, ap, ℕ, suc, ◌+◌, ◌≤◌, List, Option, arith, le_refl}
use Rattle.code_table.specs.Kind.{kind_of}
use Rattle.code_table.specs.Node.{and_child}
use Rattle.js_values.specs.declared.value.Value.{Value}
use Rattle.page_meaning.specs.declared.signal.Signal.{Signal}
use Rattle.page_meaning.specs.declared.signal.Signal.TheVariants.{Value as Val}
use Rattle.page_meaning.specs.Act.{Act, Calls, on_value, then_on}
use Rattle.page_meaning.specs.Calls.{calls_at}
use Rattle.page_meaning.specs.Store.{Store}
use Rattle.page_frames.specs.declared.frame.Begin.TheVariants as begin
use Rattle.page_frames.specs.declared.frame.Frame.TheVariants as frame
use Rattle.page_frames.specs.declared.meter.Meter.{Meter}
use Rattle.page_frames.specs.declared.meter.Next.TheVariants.{Give, Go, Enter, Then}
use Rattle.page_frames.specs.Parts.{mean_node}
use Rattle.page_frames.specs.Rest.{rest_signal, rest_value}
use Rattle.page_frames.specs.Step.{Goes, Leads}
use Rattle.page_frames.specs.Weight.{cost, weigh_value, weigh_signal}
use Rattle.page_frames.specs.Where.{Where, here_of, numbered, spot_node}
use Rattle.page_state.specs.Does.{Does}
use Rattle.step_parts.specs.Running.{Awaits, AwaitsNode, Enters}

-- the node of this number is the kth part
abbrev IsPart : Where → ℕ → ℕ → Type 0
IsPart f k j = spot_node (numbered f j) ≡ and_child (spot_node f) k

abbrev IsPlain : Where → ℕ → Store → Value → Type 0
IsPlain f j w v = Does (λ calls. mean_node calls (here_of f) (spot_node (numbered f j))) w (Val v) w

pub goes_then : (f : Where) (turn : ℕ) (got : List Value) (k j : ℕ) (w : Store) (m : Meter) → IsPart f k j
    → Goes f (kind_of (spot_node f)) turn got k w m (Then (frame.Expr (record { spot = f; turn = turn; got = got })) (begin.Node (numbered f j)))
goes_then f turn got k j w m e = record { follows = rw (← e) refl; levels = refl; lighter = rw (← e) (omega arith) }

pub goes_on : (f : Where) (turn : ℕ) (got : List Value) (k j : ℕ) (w : Store) (m : Meter) (v : Value) → IsPart f k j → IsPlain f j w v
    → Goes f (kind_of (spot_node f)) turn got k w m (Go (frame.Expr (record { spot = f; turn = turn; got = got })) (Val v))
goes_on f turn got k j w m v e p = record {
  follows = ap (λ o. then_on o (on_value (rest_value (calls_at m.depth) (here_of f) (spot_node f) (kind_of (spot_node f)) turn got))) (rw e at (p.is (calls_at m.depth) m.steps));
  levels = refl;
  lighter = omega arith;
}

pub awaits_node : (f : Where) (turn : ℕ) (kept : Option Signal) (j : ℕ) (w : Store) (m : Meter)
    → AwaitsNode f turn kept (spot_node (numbered f j)) w m (Then (frame.Stmt (record { spot = f; turn = turn; kept = kept })) (begin.Node (numbered f j)))
awaits_node f turn kept j w m = record { follows = refl; levels = refl; lighter = omega arith }

pub awaits_on : (f : Where) (turn : ℕ) (kept : Option Signal) (k j : ℕ) (w : Store) (m : Meter) (v : Value) → IsPart f k j → IsPlain f j w v
    → Awaits f turn kept k w m (Go (frame.Stmt (record { spot = f; turn = turn; kept = kept })) (Val v))
awaits_on f turn kept k j w m v e p = record {
  follows = ap (λ o. then_on o (rest_signal (calls_at m.depth) (here_of f) (spot_node f) (kind_of (spot_node f)) turn kept)) (rw e at (p.is (calls_at m.depth) m.steps));
  levels = refl;
  lighter = omega arith;
}

pub enters_node : (f : Where) (k j : ℕ) (w : Store) (m : Meter) → IsPart f k j → Enters f k w m (Enter (begin.Node (numbered f j)))
enters_node f k j w m e = record { follows = rw (← e) refl; levels = refl; lighter = rw (← e) (omega arith) }

pub enters_on : (f : Where) (k j : ℕ) (w : Store) (m : Meter) (v : Value) → IsPart f k j → IsPlain f j w v → Enters f k w m (Give (Val v))
enters_on f k j w m v e p = record { follows = rw e at (p.is (calls_at m.depth) m.steps); levels = refl; lighter = le_refl m.steps }

-- what is done at once gives its end
pub does_give : (act : Calls → Act) (s t : Store) (weight : ℕ) (m : Meter) (g : Signal) → Does act s g t → Leads (act (calls_at m.depth)) weight s m (Give g) t m
does_give act s t weight m g d = record { follows = d.is (calls_at m.depth) m.steps; levels = refl; lighter = le_refl m.steps }
