-- The recursion of making tables: a function inside is smaller.
use Rattle.std.proofs.Common.{◌≡◌, ◌≤◌, ◌+◌, ◌*◌, ◌++◌, length, map, reverse}
use Rattle.js_core.specs.Tree.{stmts_of}
use Rattle.js_core.specs.Sizes.{code_size, stmt_size, stmts_size}
use Rattle.code_table.specs.declared.code.FunctionCode.TheDeep.{deep-Kind}
use Rattle.code_table.specs.Declarations.{functions_of}
use Rattle.code_table.specs.Falls.{deepest}
use Rattle.code_numbering.specs.Numbered.{known, numbered_row}
use Rattle.code_table.specs.Table.{declared_as, row_of}
use Rattle.code_numbering.proofs.functions.+making.Given as goal

abbrev pub decreases-function_code : goal.decreases-function_code
decreases-function_code l = 4 * code_size l.code.now.value + 2

abbrev pub decreases-push_functions : goal.decreases-push_functions
decreases-push_functions l = 4 * stmts_size (stmts_of l.ss.now) + 1

abbrev pub decreases-push_function : goal.decreases-push_function
decreases-push_function l = 4 * stmt_size l.s.now

abbrev pub decreases-push_declared : goal.decreases-push_declared
decreases-push_declared l = 4 * code_size l.code.now.value + 3

abbrev pub invariant-push_functions-loop-rest : goal.invariant-push_functions-loop-rest
invariant-push_functions-loop-rest l = record {
  functions : map declared_as l.out.items ++ functions_of (stmts_of l.rest) ≡ map declared_as l.initial.out.items ++ functions_of (stmts_of l.ss);
  left : stmts_size (stmts_of l.rest) ≤ stmts_size (stmts_of l.ss);
}

abbrev pub decreases-push_functions-loop-rest : goal.decreases-push_functions-loop-rest
decreases-push_functions-loop-rest l = length l.rest

abbrev pub decreases-finish_nodes : goal.decreases-finish_nodes
decreases-finish_nodes l = 4 * deepest (map numbered_row l.nodes.items) + 1

abbrev pub decreases-finish_node : goal.decreases-finish_node
decreases-finish_node l = 4 * deep-Kind (known l.node.kind)

abbrev pub invariant-finish_nodes-loop-node : goal.invariant-finish_nodes-loop-node
invariant-finish_nodes-loop-node l = map numbered_row l.nodes.items ++ reverse (map row_of l.entries.items) ≡ map numbered_row l.initial.nodes.items

abbrev pub decreases-finish_nodes-loop-node : goal.decreases-finish_nodes-loop-node
decreases-finish_nodes-loop-node l = length l.nodes.items
