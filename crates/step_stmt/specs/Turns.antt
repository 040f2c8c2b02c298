-- Turns of loops.
use Rattle.std.specs.Prelude.{◌≡◌, ℕ, suc, ◌+◌, ◌≤◌, None}
use Rattle.code_table.specs.Kind.{kind_of}
use Rattle.code_table.specs.Node.{and_child}
use Rattle.page_meaning.specs.declared.signal.Signal.{Signal}
use Rattle.page_meaning.specs.Act.{Act}
use Rattle.page_meaning.specs.Calls.{calls_at}
use Rattle.page_meaning.specs.Loops.{turned}
use Rattle.page_meaning.specs.Store.{Store}
use Rattle.page_frames.specs.Parts.{part}
use Rattle.page_frames.specs.Rest.{rest_signal}
use Rattle.page_frames.specs.Weight.{cost, heavy, weigh_signal}
use Rattle.page_frames.specs.Where.{Where, here_of, spot_node}

-- a step pays for a body, and for the frame that waits for it with this turn
abbrev pub IsPaid : Where → ℕ → ℕ → Type 0
IsPaid f turn body = suc (weigh_signal (spot_node f) (kind_of (spot_node f)) turn) + suc (cost (and_child (spot_node f) body)) ≤ heavy

-- the frame goes on from the body's end as a loop does that goes on so
pub record GoesOnAs (f : Where) (turn depth : ℕ) (next : Act) : Type 0 where
  pub is : (s : Signal) (w : Store) (n : ℕ) → (rest_signal (calls_at depth) (here_of f) (spot_node f) (kind_of (spot_node f)) turn None s).run w n ≡ (turned next s).run w n

abbrev pub body_of : Where → ℕ → ℕ → Act
body_of f depth k = part (calls_at depth) (here_of f) (spot_node f) k
