-- Nodes that are read at once.
use Rattle.std.specs.Prelude.{ℕ, Option}
use Rattle.code_table.specs.Node.{Node, and_child}
use Rattle.js_values.specs.declared.value.Value.{Value}
use Rattle.page_meaning.specs.declared.signal.Signal.TheVariants.{Value as Val}
use Rattle.page_meaning.specs.Store.{Store}
use Rattle.page_frames.specs.Parts.{mean_node}
use Rattle.page_frames.specs.Where.{Where, here_of, spot_node}
use Rattle.page_state.specs.Does.{Does}

-- whatever may be called and however many steps are left, the node gives this value and leaves the page as it was
abbrev pub Reads : Where → Option Node → Store → Value → Type 0
Reads f at s v = Does (λ calls. mean_node calls (here_of f) at) s (Val v) s

-- the kth part of the node at a place does
abbrev pub Operand : Where → ℕ → Store → Value → Type 0
Operand f k s v = Reads f (and_child (spot_node f) k) s v
