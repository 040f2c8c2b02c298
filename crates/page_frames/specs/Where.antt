-- Places in the code of functions that run.
use Rattle.std.specs.Prelude.{ℕ, Option, Some}
use Rattle.code_table.specs.Node.{Node, node_at}
use Rattle.js_core.specs.Tree as tree
use Rattle.js_values.specs.declared.ids.EnvId.{EnvId}
use Rattle.js_values.specs.declared.value.Value.{Value}
use Rattle.page_meaning.specs.Names.{Here}

-- a node of a function by its number, with the innermost environment and `this`
pub record Where : Type 0 where
  pub code : tree.Code
  pub node : ℕ
  pub env : Option EnvId
  pub this : Value

abbrev pub spot_node : Where → Option Node
spot_node f = node_at f.code f.node

abbrev pub here_of : Where → Here
here_of f = record { env = f.env; this = f.this }

-- the node of this number
abbrev pub numbered : Where → ℕ → Where
numbered f k = record { code = f.code; node = k; env = f.env; this = f.this }

-- in this environment
abbrev pub scoped : Where → EnvId → Where
scoped f e = record { code = f.code; node = f.node; env = Some e; this = f.this }
