-- What an expression that waits for a part has yet to do, from the part's value: operators, conditionals and commas (sections 11.4 to 11.14).
-- A frame holds the values that it has got, oldest first; the number of the part that it waits for is its turn.
use Rattle.std.specs.Prelude.{ℕ, suc, List, [], ◌∷◌, Option, Some}
use Rattle.code_table.specs.Node.{Node, expr_node}
use Rattle.js_core.specs.Tree.{comma}
use Rattle.js_core.specs.declared.operators.BinaryOp.{BinaryOp}
use Rattle.js_values.specs.declared.value.Value.{Value}
use Rattle.page_meaning.specs.Act.{Act, Calls, give, done, also, choose}
use Rattle.page_meaning.specs.Expressions.{eval_each}
use Rattle.page_meaning.specs.Names.{Here}
use Rattle.page_meaning.specs.Operators.{operate}
use Rattle.whole_ops.specs.Conversions.{is_true}
use Rattle.page_frames.specs.Parts.{part, drop_exprs}

-- the left side, then the right side
abbrev pub rest_binary : Calls → Here → Option Node → BinaryOp → List Value → Value → Act
rest_binary calls here at op [] v = also (part calls here at 1) (operate calls op v)
rest_binary calls here at op (left ∷ more) v = operate calls op left v

abbrev pub rest_and : Calls → Here → Option Node → Value → Act
rest_and calls here at v = choose (is_true v) (part calls here at 1) (give v)

abbrev pub rest_or : Calls → Here → Option Node → Value → Act
rest_or calls here at v = choose (is_true v) (give v) (part calls here at 1)

abbrev pub rest_conditional : Calls → Here → Option Node → Value → Act
rest_conditional calls here at v = choose (is_true v) (part calls here at 1) (part calls here at 2)

-- the parts of a comma expression from the kth on, of which the last one's value counts
abbrev pub each_from : Calls → Here → Option Node → ℕ → Value → Act
each_from calls here (Some (expr_node (comma es))) k v = eval_each calls here (drop_exprs es k) v
each_from calls here at k v = done

abbrev pub rest_comma : Calls → Here → Option Node → ℕ → Value → Act
rest_comma calls here at turn v = each_from calls here at (suc turn) v
