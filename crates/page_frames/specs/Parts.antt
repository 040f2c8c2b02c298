-- What the parts of a node mean.
use Rattle.std.specs.Prelude.{ℕ, zero, suc, Option, Some, None}
use Rattle.code_table.specs.Node.{Node, expr_node, stmt_node, block_node, declarator_node, and_child}
use Rattle.js_core.specs.Tree as tree
use Rattle.js_core.specs.Tree.{no_exprs, then_expr, one_expr, no_holes, then_hole, no_fields, then_field, no_stmts, then_stmt, no_declarators, then_declarator, no_expr, no_cases, then_case}
use Rattle.js_values.specs.declared.value.Value.{Value}
use Rattle.page_meaning.specs.Act.{Act, Calls, done, give}
use Rattle.page_meaning.specs.Expressions.{eval, assign_to}
use Rattle.page_meaning.specs.Names.{Here}
use Rattle.page_meaning.specs.Statements.{exec, exec_all, declared_as}

-- where there is no node, nothing is done
abbrev pub mean_node : Calls → Here → Option Node → Act
mean_node calls here None = done
mean_node calls here (Some (expr_node e)) = eval calls here e
mean_node calls here (Some (stmt_node s)) = exec calls here s
mean_node calls here (Some (block_node ss)) = exec_all calls here ss
mean_node calls here (Some (declarator_node x e)) = declared_as calls here x (one_expr e)

abbrev pub part : Calls → Here → Option Node → ℕ → Act
part calls here at k = mean_node calls here (and_child at k)

abbrev pub node_or : Calls → Here → Option Node → Value → Act
node_or calls here None v = give v
node_or calls here (Some n) v = mean_node calls here (Some n)

-- a part, or the value where it is absent
abbrev pub part_or : Calls → Here → Option Node → ℕ → Value → Act
part_or calls here at k v = node_or calls here (and_child at k) v

-- the node as the target of a for-in, which takes the value
abbrev pub mean_target : Calls → Here → Option Node → Value → Act
mean_target calls here (Some (expr_node e)) v = assign_to calls here e v
mean_target calls here at v = give v

-- ---- what is left of a list of parts after the first so many

abbrev pub later_exprs : tree.Exprs → tree.Exprs
later_exprs no_exprs = no_exprs
later_exprs (then_expr e es) = es

abbrev pub drop_exprs : tree.Exprs → ℕ → tree.Exprs
drop_exprs es zero = es
drop_exprs es (suc k) = drop_exprs (later_exprs es) k

abbrev pub later_holes : tree.Holes → tree.Holes
later_holes no_holes = no_holes
later_holes (then_hole e hs) = hs

abbrev pub drop_holes : tree.Holes → ℕ → tree.Holes
drop_holes hs zero = hs
drop_holes hs (suc k) = drop_holes (later_holes hs) k

abbrev pub later_fields : tree.Fields → tree.Fields
later_fields no_fields = no_fields
later_fields (then_field x e fs) = fs

abbrev pub drop_fields : tree.Fields → ℕ → tree.Fields
drop_fields fs zero = fs
drop_fields fs (suc k) = drop_fields (later_fields fs) k

abbrev pub later_stmts : tree.Stmts → tree.Stmts
later_stmts no_stmts = no_stmts
later_stmts (then_stmt s ss) = ss

abbrev pub drop_stmts : tree.Stmts → ℕ → tree.Stmts
drop_stmts ss zero = ss
drop_stmts ss (suc k) = drop_stmts (later_stmts ss) k

-- after the first that has an initialiser: the others are no parts
abbrev pub later_declarators : tree.Declarators → tree.Declarators
later_declarators no_declarators = no_declarators
later_declarators (then_declarator x no_expr ds) = later_declarators ds
later_declarators (then_declarator x (one_expr e) ds) = ds

abbrev pub drop_declarators : tree.Declarators → ℕ → tree.Declarators
drop_declarators ds zero = ds
drop_declarators ds (suc k) = drop_declarators (later_declarators ds) k

abbrev pub later_cases : tree.Cases → tree.Cases
later_cases no_cases = no_cases
later_cases (then_case e ss cs) = cs

abbrev pub drop_cases : tree.Cases → ℕ → tree.Cases
drop_cases cs zero = cs
drop_cases cs (suc k) = drop_cases (later_cases cs) k
