-- What frames weigh: the loop of the machine ends since each of its turns makes the stack lighter, or takes a step.
use Rattle.std.specs.Prelude.{ℕ, zero, suc, ◌+◌, ◌-◌, ◌*◌, ◌^◌, ◌<◌, List, [], ◌∷◌, length, Option, Some, None, Bool, true, false}
use Rattle.code_table.specs.Kind.{kind_of}
use Rattle.code_table.specs.Node.{Node, Parts, no_parts, then_part, then_none, inside, nodes_of}
use Rattle.code_table.specs.declared.kind.Kind.{Kind}
use Rattle.code_table.specs.declared.kind.Kind.TheVariants as kind
use Rattle.js_core.specs.Tree as tree
use Rattle.js_values.specs.declared.value.Value.{Value}
use Rattle.page_frames.specs.declared.frame.Begin.{Begin}
use Rattle.page_frames.specs.declared.frame.Begin.TheVariants as begin
use Rattle.page_frames.specs.declared.frame.Frame.{Frame}
use Rattle.page_frames.specs.declared.frame.Frame.TheVariants as frame
use Rattle.page_frames.specs.Where.{spot_node}

-- a code has less than 2^32 nodes
pub record HasFewNodes (c : tree.Code) : Type 0 where
  pub few : length (nodes_of c) < 4294967296

-- what it costs to run these parts: 24 for each node among them
abbrev pub costs : Parts → ℕ
costs no_parts = 0
costs (then_part n inside p) = 24 + costs inside + costs p
costs (then_none p) = costs p

-- what it costs to begin a node, beside the two turns that each part takes
abbrev pub cost : Option Node → ℕ
cost None = 0
cost (Some n) = 22 + costs (inside n)

-- the parts from the kth on
abbrev pub costs_from : Parts → ℕ → ℕ
costs_from p zero = costs p
costs_from no_parts (suc k) = 0
costs_from (then_part n inside p) (suc k) = costs_from p k
costs_from (then_none p) (suc k) = costs_from p k

abbrev pub parts_from : Option Node → ℕ → ℕ
parts_from None k = 0
parts_from (Some n) k = costs_from (inside n) k

-- what is left over for parts that are absent: two turns for each of the first eight
abbrev pub spare : ℕ → ℕ
spare k = 4 + 2 * (8 - k)

-- what waits, and may yet run the parts from the kth on
abbrev pub weigh : Option Node → ℕ → ℕ
weigh at k = spare k + parts_from at k

-- every other part from the kth on
abbrev mutual
  pub these_from : Parts → ℕ
  these_from no_parts = 0
  these_from (then_part n inside p) = 24 + costs inside + others_from p
  these_from (then_none p) = others_from p

  pub others_from : Parts → ℕ
  others_from no_parts = 0
  others_from (then_part n inside p) = these_from p
  others_from (then_none p) = these_from p

abbrev pub drop_parts : Parts → ℕ → Parts
drop_parts p zero = p
drop_parts no_parts (suc k) = no_parts
drop_parts (then_part n inside p) (suc k) = drop_parts p k
drop_parts (then_none p) (suc k) = drop_parts p k

abbrev pub inside_of : Option Node → Parts
inside_of None = no_parts
inside_of (Some n) = inside n

-- a switch that waits for the test of the case of this index may yet run the later tests, and the statements of every case
abbrev pub weigh_case : Option Node → ℕ → Bool → ℕ
weigh_case at i true = 4 + these_from (drop_parts (inside_of at) (3 + 2 * i)) + these_from (drop_parts (inside_of at) 2)
weigh_case at i false = 4 + these_from (drop_parts (inside_of at) (4 + 2 * i))

-- an expression: what it has got says which part comes next, or its turn does
abbrev pub weigh_args : Option Node → List Value → ℕ
weigh_args at [] = weigh at 1
weigh_args at (v ∷ got) = weigh at (suc (length got))

abbrev pub weigh_value : Option Node → Kind → ℕ → List Value → ℕ
weigh_value at kind.List turn got = weigh at (suc turn)
weigh_value at (kind.Literal xs) turn got = weigh at (suc turn)
weigh_value at kind.Comma turn got = weigh at (suc turn)
weigh_value at (kind.CallMember x) turn got = weigh_args at got
weigh_value at kind.Call turn got = weigh_args at got
weigh_value at kind.New turn got = weigh_args at got
weigh_value at kind.And turn got = weigh at 1
weigh_value at kind.Or turn got = weigh at 1
weigh_value at kind.Cond turn got = weigh at 1
weigh_value at q turn got = weigh at (suc (length got))

-- a statement: a loop pays for its turns by steps
abbrev pub weigh_signal : Option Node → Kind → ℕ → ℕ
weigh_signal at kind.If turn = weigh at 1
weigh_signal at kind.Switch turn = weigh at 1
weigh_signal at kind.While (suc k) = weigh at 0
weigh_signal at kind.For (suc (suc zero)) = weigh at 1
weigh_signal at kind.For (suc (suc (suc k))) = weigh at 1 + weigh at 1
weigh_signal at q turn = weigh at (suc turn)

-- a for-in that waits for its target, or for its body
abbrev pub weigh_each : Option Node → Bool → ℕ
weigh_each at true = weigh at 2
weigh_each at false = weigh at 3

abbrev pub weigh_target : Option Node → Option Value → ℕ
weigh_target at None = weigh at 1
weigh_target at (Some base) = weigh at 2

-- what a place of an event's way may cost: two turns for each listener, of which no list has as many
unfoldable pub many : ℕ
many = 2 ^ 65

-- a frame that waits, beside its own turn
abbrev pub weigh_frame : Frame → ℕ
weigh_frame (frame.Expr f) = weigh_value (spot_node f.spot) (kind_of (spot_node f.spot)) f.turn f.got
weigh_frame (frame.Name f) = weigh (spot_node f.spot) 1
weigh_frame (frame.Target f) = weigh_target (spot_node f.spot) f.base
weigh_frame (frame.Stmt f) = weigh_signal (spot_node f.spot) (kind_of (spot_node f.spot)) f.turn
weigh_frame (frame.Each f) = weigh_each (spot_node f.spot) f.assigning
weigh_frame (frame.Case f) = weigh_case (spot_node f.spot) f.index f.testing
weigh_frame (frame.Called f) = 0
weigh_frame (frame.Visit f) = 0
weigh_frame (frame.Deliver f) = length f.later * many + 2 * length f.round

-- what begins, beside its own turn
abbrev pub weigh_begin : Begin → ℕ
weigh_begin (begin.Node f) = cost (spot_node f)
weigh_begin (begin.Target f v) = cost (spot_node f)
weigh_begin (begin.Call f) = 0
weigh_begin (begin.Deliver e k) = 2 ^ 129

-- more than all that one step pays for
unfoldable pub heavy : ℕ
heavy = 2 ^ 130

-- with so many steps left
abbrev pub load : ℕ → ℕ → ℕ
load steps weight = steps * heavy + weight
