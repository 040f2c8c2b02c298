-- What holds of frames, their weights and their stacks.
use Rattle.std.specs.Prelude.{◌≡◌, ℕ, suc, ◌+◌, ◌≤◌, ◌<◌, ◌^◌, List, ◌∷◌, Option, true, is_some}
use Rattle.code_table.specs.Node.{Node, and_child, node_at}
use Rattle.js_core.specs.Tree as tree
use Rattle.page_meaning.specs.declared.signal.Signal.{Signal}
use Rattle.page_meaning.specs.Act.{Act, Outcome, Stopped, also, then_on}
use Rattle.page_meaning.specs.Loops.{loop, turn_if}
use Rattle.page_meaning.specs.Store.{Store}
use Rattle.page_frames.specs.declared.frame.Frame.{Frame}
use Rattle.page_frames.specs.declared.meter.Meter.{Meter}
use Rattle.page_frames.specs.declared.meter.Next.{Next}
use Rattle.page_frames.specs.declared.meter.Next.TheVariants.{Give, Go, Enter, Then, Stopped as Halt}
use Rattle.page_frames.specs.Stack.{GoesOn, Runs, deep, rest_all}
use Rattle.page_frames.specs.Step.{LeadsTo, weigh_next}
use Rattle.page_frames.specs.Weight.{HasFewNodes, cost, heavy, load, weigh}

-- a loop is its test, and then a turn and the loop again (12.6)
abbrev pub LoopsTurn : Type 0
LoopsTurn =
    (test body last : Act) (w : Store) (n : ℕ) → (loop test body last).run w n ≡ (also test (turn_if body (also last (λ _. loop test body last)))).run w n

-- what waits for one of the first eight parts, or for one that is there, can pay for it
abbrev pub PartsArePaid : Type 0
PartsArePaid =
    ((at : Option Node) (k : ℕ) → k < 8 → suc (weigh at (suc k)) + suc (cost (and_child at k)) ≤ weigh at k)
    × ((at : Option Node) (k : ℕ) → is_some (and_child at k) ≡ true → suc (weigh at (suc k)) + suc (cost (and_child at k)) ≤ weigh at k)

-- a step pays for whatever a node of a code may run
abbrev pub StepsPay : Type 0
StepsPay =
    (c : tree.Code) (k i j l : ℕ) → HasFewNodes c → suc (weigh (node_at c k) i + weigh (node_at c k) j) + suc (cost (and_child (node_at c k) l)) ≤ heavy

-- an act, and then the frames below, which it leaves this depth, have this outcome
abbrev pub Before : Act → ℕ → List Frame → Store → Meter → Outcome Signal → Type 0
Before act level below w m o = (then_on (act.run w m.steps) (rest_all level below) ≡ o) × (deep level below < 2 ^ 32)

-- and so has what the act leads to
abbrev pub Afterwards : Next → List Frame → Store → Meter → Outcome Signal → Type 0
Afterwards (Give s) below w m o = GoesOn below s w m o
Afterwards (Go f s) below w m o = GoesOn (f ∷ below) s w m o
Afterwards (Enter b) below w m o = Runs b below w m o
Afterwards (Then f b) below w m o = Runs b (f ∷ below) w m o
Afterwards Halt below w m o = Stopped w ≡ o

-- a step keeps what the stack has yet to do
abbrev pub StacksFollow : Type 0
StacksFollow =
    (act : Act) (weight level : ℕ) (below : List Frame) (next : Next) (w w' : Store) (m m' : Meter) (o : Outcome Signal) →
    LeadsTo act weight level w m next w' m' → Before act level below w m o → Afterwards next below w' m' o

abbrev pub IsLighter : Next → ℕ → Meter → ℕ → Meter → Type 0
IsLighter Halt rest m weight m' = Unit {0}
IsLighter next rest m weight m' = load m'.steps (weigh_next next + rest) < load m.steps (suc weight + rest)

-- and makes it lighter
abbrev pub StacksFall : Type 0
StacksFall =
    (act : Act) (weight level rest : ℕ) (next : Next) (w w' : Store) (m m' : Meter) → LeadsTo act weight level w m next w' m' → IsLighter next rest m weight m'
