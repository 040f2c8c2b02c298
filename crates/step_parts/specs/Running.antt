-- How the parts of statements run.
use Rattle.std.specs.Prelude.{ℕ, suc, ◌+◌, Option}
use Rattle.code_table.specs.Kind.{kind_of}
use Rattle.code_table.specs.Node.{Node, and_child}
use Rattle.page_meaning.specs.declared.signal.Signal.{Signal}
use Rattle.page_meaning.specs.Act.{bind}
use Rattle.page_meaning.specs.Calls.{calls_at}
use Rattle.page_meaning.specs.Store.{Store}
use Rattle.page_frames.specs.declared.meter.Meter.{Meter}
use Rattle.page_frames.specs.declared.meter.Next.{Next}
use Rattle.page_frames.specs.Parts.{mean_node, part}
use Rattle.page_frames.specs.Rest.{rest_signal}
use Rattle.page_frames.specs.Step.{Leads}
use Rattle.page_frames.specs.Weight.{cost, weigh_signal}
use Rattle.page_frames.specs.Where.{Where, here_of, spot_node}

-- the node runs, and then the statement goes on from its end
abbrev pub AwaitsNode : Where → ℕ → Option Signal → Option Node → Store → Meter → Next → Type 0
AwaitsNode f turn kept at w m next =
    Leads (bind (mean_node (calls_at m.depth) (here_of f) at) (rest_signal (calls_at m.depth) (here_of f) (spot_node f) (kind_of (spot_node f)) turn kept))
    (suc (weigh_signal (spot_node f) (kind_of (spot_node f)) turn) + suc (cost at)) w m next w m

-- the kth part runs, and then the statement goes on from its end
abbrev pub Awaits : Where → ℕ → Option Signal → ℕ → Store → Meter → Next → Type 0
Awaits f turn kept k w m next = AwaitsNode f turn kept (and_child (spot_node f) k) w m next

-- the kth part runs in the place of what waits for it
abbrev pub Enters : Where → ℕ → Store → Meter → Next → Type 0
Enters f k w m next = Leads (part (calls_at m.depth) (here_of f) (spot_node f) k) (suc (cost (and_child (spot_node f) k))) w m next w m
