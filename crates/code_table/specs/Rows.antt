-- The rows of a table: for each node, after those of its parts, its kind and the numbers of its parts.
use Rattle.std.specs.Prelude.{ℕ, List, [], ◌∷◌, ◌++◌, length}
use Rattle.js_core.specs.Tree as tree
use Rattle.code_table.specs.declared.kind.Kind.{Kind}
use Rattle.code_table.specs.Kind.{node_kind}
use Rattle.code_table.specs.Node.{block_node, Parts, no_parts, then_part, then_none, part, stmts_parts, body_of}

pub record Row : Type 0 where
  pub kind : Kind
  pub parts : List ℕ

-- the number of a part that is absent: no node has it
abbrev pub no_number : ℕ
no_number = 4294967295

-- the rows when those of these parts have joined them, and the numbers of the parts
abbrev mutual
  pub with_parts : List Row → Parts → List Row
  with_parts rows no_parts = rows
  with_parts rows (then_part n inside p) =
      with_parts (with_parts rows inside ++ record { kind = node_kind n; parts = with_numbers rows [] inside } ∷ []) p
  with_parts rows (then_none p) = with_parts rows p

  pub with_numbers : List Row → List ℕ → Parts → List ℕ
  with_numbers rows numbers no_parts = numbers
  with_numbers rows numbers (then_part n inside p) =
      with_numbers (with_parts rows inside ++ record { kind = node_kind n; parts = with_numbers rows [] inside } ∷ [])
      (numbers ++ length (with_parts rows inside) ∷ []) p
  with_numbers rows numbers (then_none p) = with_numbers rows (numbers ++ no_number ∷ []) p

abbrev pub rows_of : tree.Code → List Row
rows_of c = with_parts [] (part (block_node (body_of c)) (stmts_parts (body_of c)))
