-- What waits for a right side, or for a part of a target.
use Rattle.std.specs.Prelude.{ℕ, suc, ◌+◌, List, Option, Some}
use Rattle.code_table.specs.Kind.{kind_of}
use Rattle.code_table.specs.Node.{and_child}
use Rattle.code_table.specs.declared.kind.Kind.TheVariants.{AssignName}
use Rattle.js_core.specs.declared.operators.BinaryOp.{BinaryOp}
use Rattle.js_values.specs.declared.value.Value.{Value}
use Rattle.page_meaning.specs.declared.reference.Reference.{Reference}
use Rattle.page_meaning.specs.Act.{also}
use Rattle.page_meaning.specs.Calls.{calls_at}
use Rattle.page_meaning.specs.Names.{read}
use Rattle.page_meaning.specs.Store.{Store}
use Rattle.page_frames.specs.declared.meter.Meter.{Meter}
use Rattle.page_frames.specs.declared.meter.Next.{Next}
use Rattle.page_frames.specs.Parts.{part}
use Rattle.page_frames.specs.Rest.{rest_name, rest_target}
use Rattle.page_frames.specs.RestProperties.{then_right}
use Rattle.page_frames.specs.Step.{Leads}
use Rattle.page_frames.specs.Weight.{cost, weigh, weigh_target}
use Rattle.page_frames.specs.Where.{Where, here_of, spot_node}

-- the right side of a name runs, and then the name goes on by what it meant
abbrev pub RunsRight : Where → Reference → Option Value → Store → Meter → Next → Store → Type 0
RunsRight f ref old w m next t =
    Leads (also (part (calls_at m.depth) (here_of f) (spot_node f) 0) (rest_name (calls_at m.depth) (kind_of (spot_node f)) ref old)) (weigh (spot_node f) 0) w m next t m

-- the name is read before
abbrev pub ReadsThenRuns : Where → BinaryOp → List ℕ → Reference → Store → Meter → Next → Store → Type 0
ReadsThenRuns f op x ref w m next t =
    Leads (also (read x ref) (λ old. also (part (calls_at m.depth) (here_of f) (spot_node f) 0) (rest_name (calls_at m.depth) (AssignName (Some op) x) ref (Some old))))
    (weigh (spot_node f) 0) w m next t m

-- the right side of a property in brackets runs, once its name is known
abbrev pub RunsNamed : Where → Option BinaryOp → Value → List ℕ → Store → Meter → Next → Store → Type 0
RunsNamed f op base x w m next t = Leads (then_right (calls_at m.depth) (here_of f) (spot_node f) op 2 base x) (weigh (spot_node f) 2) w m next t m

-- the kth part of a target runs, and then the target goes on with what it has got
abbrev pub RunsTarget : Where → Value → Option Value → ℕ → Store → Meter → Next → Type 0
RunsTarget f v base k w m next =
    Leads (also (part (calls_at m.depth) (here_of f) (spot_node f) k) (rest_target (calls_at m.depth) (here_of f) (spot_node f) (kind_of (spot_node f)) v base))
    (suc (weigh_target (spot_node f) base) + suc (cost (and_child (spot_node f) k))) w m next w m

-- the target goes on with the value of its base, or of its key
abbrev pub TargetGoes : Where → Value → Option Value → Value → Store → Meter → Next → Store → Type 0
TargetGoes f v base u w m next t =
    Leads (rest_target (calls_at m.depth) (here_of f) (spot_node f) (kind_of (spot_node f)) v base u) (weigh_target (spot_node f) base) w m next t m
