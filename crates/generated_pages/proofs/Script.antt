-- The tree of a generated page's script.
use Rattle.std.specs.Prelude.{ℕ, zero, suc, ◌%◌, pos, [], ◌∷◌, Some, None, false, codes}
use Rattle.js_core.specs.Tree as tree
use Rattle.js_core.specs.Tree.{name, num, text, bool, null, list, literal, func, member, index, call, binary, assign, no_exprs, then_expr, one_expr, no_holes, no_fields, then_field, code, var, function, expr, if_else, return, no_stmts, then_stmt, no_body, no_declarators, then_declarator}
use Rattle.js_core.specs.declared.operators.BinaryOp.TheVariants as op
use Rattle.page_maker.specs.Generator.{drawn}

-- ---- the statements before the first part

abbrev pub directive : tree.Stmt
directive = expr (text (codes "use strict"))

abbrev pub sums : tree.Stmt
sums = var (then_declarator (codes "parts") (one_expr (list no_holes)) (then_declarator (codes "sum") (one_expr (num (Some (pos 0)))) no_declarators))

-- ---- the function that makes a part, a statement at a time

abbrev pub own_part : tree.Stmt
own_part = var (then_declarator (codes "n") (one_expr (name (codes "k"))) (then_declarator (codes "o") (one_expr (literal (then_field (codes "id") (name (codes "i")) (then_field (codes "next") null no_fields)))) (then_declarator (codes "d") (one_expr (call (member (name (codes "document")) (codes "createElement")) (then_expr (text (codes "p")) no_exprs))) no_declarators)))

abbrev pub points_at_itself : tree.Stmt
points_at_itself = expr (assign None (member (name (codes "o")) (codes "self")) (name (codes "o")))

abbrev pub points_at_the_last : tree.Stmt
points_at_the_last = if_else (binary op.Greater (member (name (codes "parts")) (codes "length")) (num (Some (pos 0)))) (then_stmt (expr (assign None (member (name (codes "o")) (codes "next")) (member (index (name (codes "parts")) (binary op.Sub (member (name (codes "parts")) (codes "length")) (num (Some (pos 1))))) (codes "o")))) no_stmts) no_body

abbrev pub names_its_node : tree.Stmt
names_its_node = expr (call (member (name (codes "d")) (codes "setAttribute")) (then_expr (text (codes "id")) (then_expr (binary op.Add (text (codes "p")) (name (codes "i"))) no_exprs)))

abbrev pub listens : tree.Stmt
listens = expr (call (member (name (codes "d")) (codes "addEventListener")) (then_expr (text (codes "click")) (then_expr (func (code None [] (then_stmt (expr (assign None (name (codes "n")) (binary op.Add (name (codes "n")) (num (Some (pos 1)))))) (then_stmt (expr (assign None (name (codes "sum")) (binary op.Add (name (codes "sum")) (name (codes "n"))))) no_stmts)))) (then_expr (bool false) no_exprs))))

abbrev pub appends_its_node : tree.Stmt
appends_its_node = expr (call (member (member (name (codes "document")) (codes "body")) (codes "appendChild")) (then_expr (name (codes "d")) no_exprs))

abbrev pub starts_its_interval : tree.Stmt
starts_its_interval = expr (call (name (codes "setInterval")) (then_expr (func (code None [] (then_stmt (expr (assign None (name (codes "n")) (binary op.Add (name (codes "n")) (name (codes "k"))))) no_stmts))) (then_expr (binary op.Add (num (Some (pos 10))) (name (codes "k"))) no_exprs)))

abbrev pub is_kept : tree.Stmt
is_kept = expr (call (member (name (codes "parts")) (codes "push")) (then_expr (literal (then_field (codes "o") (name (codes "o")) (then_field (codes "get") (func (code None [] (then_stmt (return (one_expr (name (codes "n")))) no_stmts))) no_fields))) no_exprs))

abbrev pub part_function : tree.Stmt
part_function = function (code (Some (codes "part")) (codes "i" ∷ codes "k" ∷ []) (then_stmt own_part (then_stmt points_at_itself (then_stmt points_at_the_last (then_stmt names_its_node (then_stmt listens (then_stmt appends_its_node (then_stmt starts_its_interval (then_stmt is_kept no_stmts)))))))))

-- ---- the function that prints the sums

abbrev pub begins_at_zero : tree.Stmt
begins_at_zero = var (then_declarator (codes "s") (one_expr (num (Some (pos 0)))) no_declarators)

abbrev pub adds_each : tree.Stmt
adds_each = expr (call (member (name (codes "parts")) (codes "forEach")) (then_expr (func (code None (codes "p" ∷ []) (then_stmt (if_else (binary op.Same (member (member (name (codes "p")) (codes "o")) (codes "self")) (member (name (codes "p")) (codes "o"))) (then_stmt (expr (assign None (name (codes "s")) (binary op.Add (name (codes "s")) (call (member (name (codes "p")) (codes "get")) no_exprs)))) no_stmts) no_body) no_stmts))) no_exprs))

abbrev pub prints_the_sums : tree.Stmt
prints_the_sums = expr (call (member (name (codes "console")) (codes "log")) (then_expr (name (codes "s")) (then_expr (name (codes "sum")) (then_expr (member (name (codes "parts")) (codes "length")) no_exprs))))

abbrev pub total_function : tree.Stmt
total_function = function (code (Some (codes "total")) [] (then_stmt begins_at_zero (then_stmt adds_each (then_stmt prints_the_sums no_stmts))))

-- ---- the script

-- the statements before the first part, and then these
abbrev pub opened_by : tree.Stmts → tree.Stmts
opened_by ss = then_stmt directive (then_stmt sums (then_stmt part_function (then_stmt total_function ss)))

-- the call that makes a part
abbrev pub part_call : ℕ → ℕ → tree.Stmt
part_call number start = expr (call (name (codes "part")) (then_expr (num (Some (pos number))) (then_expr (num (Some (pos start))) no_exprs)))

-- the number that a part begins with
abbrev pub start_of : ℕ → ℕ
start_of number = drawn number % 10

-- the calls that make the first n parts, in order, and then these
abbrev pub after_calls : ℕ → tree.Stmts → tree.Stmts
after_calls zero ss = ss
after_calls (suc n) ss = after_calls n (then_stmt (part_call (suc n) (start_of (suc n))) ss)

-- the script of the page with n parts
abbrev pub made_script : ℕ → tree.Stmts
made_script n = opened_by (after_calls n no_stmts)
