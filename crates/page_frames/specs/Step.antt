-- What a step is: it follows what there was to do, comes back to its depth, and makes what is left lighter.
use Rattle.std.specs.Prelude.{◌≡◌, ℕ, suc, ◌+◌, ◌≤◌, List, Option}
use Rattle.code_table.specs.Node.{and_child}
use Rattle.code_table.specs.declared.kind.Kind.{Kind}
use Rattle.js_values.specs.declared.value.Value.{Value}
use Rattle.page_meaning.specs.declared.signal.Signal.{Signal}
use Rattle.page_meaning.specs.Act.{Act, Calls, Outcome, Ended, Stopped, then_on, also}
use Rattle.page_meaning.specs.Calls.{calls_at}
use Rattle.page_meaning.specs.Store.{Store}
use Rattle.page_frames.specs.declared.frame.Begin.{Begin}
use Rattle.page_frames.specs.declared.frame.Frame.{Frame}
use Rattle.page_frames.specs.declared.frame.Frame.TheVariants.{Called, Visit}
use Rattle.page_frames.specs.declared.meter.Meter.{Meter}
use Rattle.page_frames.specs.declared.meter.Next.{Next}
use Rattle.page_frames.specs.declared.meter.Next.TheVariants.{Give, Go, Enter, Then, Stopped as Halt}
use Rattle.page_frames.specs.Parts.{mean_node, part}
use Rattle.page_frames.specs.Rest.{mean_of, rest_of, rest_value, rest_signal}
use Rattle.page_frames.specs.Weight.{cost, load, weigh_begin, weigh_frame, weigh_signal, weigh_value}
use Rattle.page_frames.specs.Where.{Where, here_of, spot_node}

-- what is left to do after a step
abbrev pub after : Next → Store → Meter → Outcome Signal
after (Give s) w m = Ended s w m.steps
after (Go f s) w m = (rest_of (calls_at m.depth) f s).run w m.steps
after (Enter b) w m = (mean_of (calls_at m.depth) b).run w m.steps
after (Then f b) w m = then_on ((mean_of (calls_at m.depth) b).run w m.steps) (rest_of (calls_at m.depth) f)
after Halt w m = Stopped w

-- the depth that is left once a frame is done: a call that waits gives its level back, and so does a visit
abbrev pub depth_after : Frame → ℕ → ℕ
depth_after (Called f) d = suc d
depth_after (Visit f) d = suc d
depth_after f d = d

-- the depth comes back to this level
abbrev pub Levels : ℕ → Next → Meter → Type 0
Levels level (Give s) m = m.depth ≡ level
Levels level (Go f s) m = depth_after f m.depth ≡ level
Levels level (Enter b) m = m.depth ≡ level
Levels level (Then f b) m = depth_after f m.depth ≡ level
Levels level Halt m = Unit {0}

abbrev pub weigh_next : Next → ℕ
weigh_next (Give s) = 0
weigh_next (Go f s) = suc (weigh_frame f)
weigh_next (Enter b) = suc (weigh_begin b)
weigh_next (Then f b) = suc (weigh_frame f) + suc (weigh_begin b)
weigh_next Halt = 0

-- what comes next is no heavier
abbrev pub Lighter : ℕ → Meter → Next → Meter → Type 0
Lighter weight m (Give s) m' = m'.steps ≤ m.steps
Lighter weight m Halt m' = Unit {0}
Lighter weight m next m' = load m'.steps (weigh_next next) ≤ load m.steps weight

-- what is left to do is done by the step and what it leads to, which comes back to this depth and weighs no more than this
pub record LeadsTo (act : Act) (weight level : ℕ) (w : Store) (m : Meter) (next : Next) (w' : Store) (m' : Meter) : Type 0 where
  pub follows : act.run w m.steps ≡ after next w' m'
  pub levels : Levels level next m'
  pub lighter : Lighter weight m next m'

-- the depth comes back to what it was
abbrev pub Leads : Act → ℕ → Store → Meter → Next → Store → Meter → Type 0
Leads act weight w m next w' m' = LeadsTo act weight m.depth w m next w' m'

-- the act leads there with a level of depth less for its own calls
abbrev pub Lowers : ℕ → (Calls → Act) → Store → Meter → Next → Store → Meter → Type 0
Lowers weight act w m next w' m' = (d : ℕ) → m.depth ≡ suc d → Leads (act (calls_at d)) weight w m next w' m'

-- a step of what begins
abbrev pub Begins : Begin → Store → Meter → Next → Store → Meter → Type 0
Begins b w m next w' m' = Leads (mean_of (calls_at m.depth) b) (weigh_begin b) w m next w' m'

-- a step of a frame from the end of what it waits for
abbrev pub Steps : Frame → Signal → Store → Meter → Next → Store → Meter → Type 0
Steps f s w m next w' m' = LeadsTo (rest_of (calls_at m.depth) f s) (weigh_frame f) (depth_after f m.depth) w m next w' m'

-- a node begins
abbrev pub Opens : Where → Store → Meter → Next → Store → Meter → Type 0
Opens f w m next w' m' = Leads (mean_node (calls_at m.depth) (here_of f) (spot_node f)) (cost (spot_node f)) w m next w' m'

-- an expression of this kind goes on with a value
abbrev pub Moves : Where → Kind → ℕ → List Value → Value → Store → Meter → Next → Store → Type 0
Moves f kind turn got v w m next w' =
    Leads (rest_value (calls_at m.depth) (here_of f) (spot_node f) kind turn got v) (weigh_value (spot_node f) kind turn got) w m next w' m

-- a statement of this kind goes on from an end
abbrev pub Shifts : Where → Kind → ℕ → Option Signal → Signal → Store → Meter → Next → Store → Meter → Type 0
Shifts f kind turn kept s w m next w' m' =
    Leads (rest_signal (calls_at m.depth) (here_of f) (spot_node f) kind turn kept s) (weigh_signal (spot_node f) kind turn) w m next w' m'

-- the kth part runs, and then the expression goes on with these values
abbrev pub Goes : Where → Kind → ℕ → List Value → ℕ → Store → Meter → Next → Type 0
Goes f kind turn got k w m next =
    Leads (also (part (calls_at m.depth) (here_of f) (spot_node f) k) (rest_value (calls_at m.depth) (here_of f) (spot_node f) kind turn got))
    (suc (weigh_value (spot_node f) kind turn got) + suc (cost (and_child (spot_node f) k))) w m next w m
