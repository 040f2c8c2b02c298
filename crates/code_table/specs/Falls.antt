-- Each function in a function's table is smaller.
use Rattle.std.specs.Prelude.{◌≡◌, ℕ, ◌≤◌, ◌+◌, Bool, true, false, List, [], ◌∷◌, ◌++◌, Option, map, refl}
use Rattle.std.proofs.Common.{arith, ap, subst, sym}
use denote.Param.Weighed.{most}
use Rattle.js_core.specs.declared.operators.BinaryOp.{BinaryOp}
use Rattle.js_core.specs.declared.operators.UnaryOp.{UnaryOp}
use Rattle.js_core.specs.declared.operators.UnaryOp.TheVariants.{Delete, Typeof}
use Rattle.js_core.specs.Sizes.{expr_size, exprs_size, maybe_expr_size, holes_size, fields_size, code_size, stmt_size, stmts_size, maybe_stmts_size, declarators_size, for_init_size, maybe_catch_size, cases_size}
use Rattle.js_core.specs.Tree as tree
use Rattle.js_core.specs.Tree.{name, num, text, bool, null, this, list, literal, func, member, index, call, construct, unary, update, binary, logical_and, logical_or, conditional, assign, comma, no_exprs, then_expr, no_expr, one_expr, no_holes, then_hole, no_fields, then_field, code, var, function, expr, empty, block, if_else, do_while, while, for, for_in, continue, break, return, throw, try, switch, no_stmts, then_stmt, no_body, one_body, no_declarators, then_declarator, no_init, init_var, init_expr, no_catch, one_catch, no_cases, then_case}
use Rattle.code_table.specs.Declarations.{unnamed, functions_of}
use Rattle.code_table.specs.Kind.{call_kind, unary_kind, update_kind, assign_kind, expr_kind, stmt_kind, node_kind}
use Rattle.code_table.specs.Node.{body_of, expr_node, block_node, Parts, no_parts, then_part, then_none, part, join, of_place, is_property, takes_place, expr_parts, exprs_parts, maybe_expr_parts, holes_parts, fields_parts, stmt_parts, stmts_parts, maybe_stmts_parts, declarators_parts, declarator_parts, init_parts, catch_parts, cases_parts}
use Rattle.code_table.specs.Rows.{Row, with_parts, with_numbers, rows_of}
use Rattle.code_table.specs.Table.{IsTable, code_of, row_of, declared_as}
use Rattle.code_table.specs.declared.code.Declared.{Declared}
use Rattle.code_table.specs.declared.code.FunctionCode.TheDeep.{deep-Kind, deep-Entry, deep-Declared, deep-FunctionCode}
use Rattle.code_table.specs.declared.code.FunctionCode.TheInside.{Inside}
use Rattle.code_table.specs.declared.entry.Entry.{Entry}

-- no function in these parts is larger
abbrev Within : ℕ → Parts → Type 0
Within m no_parts = Unit {0}
Within m (then_part n inside p) = (deep-Kind (node_kind n) ≤ m) × Within m inside × Within m p
Within m (then_none p) = Within m p

joined : (m : ℕ) (p q : Parts) → Within m p → Within m q → Within m (join p q)
joined m no_parts q h g = g
joined m (then_part n inside p) q h g = (h.0, h.1, joined m p q h.2 g)
joined m (then_none p) q h g = joined m p q h g

placed : (m : ℕ) (b : Bool) (e : tree.Expr) → (deep-Kind (expr_kind e) ≤ m) × Within m (expr_parts e) → Within m (of_place b e (expr_parts e))
placed m true e h = h.1
placed m false e h = (h.0, h.1, tt)

call_falls : (m : ℕ) (f : tree.Expr) → deep-Kind (call_kind f) ≤ m
call_falls m (member e x) = omega arith
call_falls m (index a b) = omega arith
call_falls m f = omega arith

unary_falls : (m : ℕ) (op : UnaryOp) (e : tree.Expr) → deep-Kind (unary_kind op e) ≤ m
unary_falls m Delete (member e x) = omega arith
unary_falls m Delete (index a b) = omega arith
unary_falls m Typeof (name x) = omega arith
unary_falls m op e = omega arith

update_falls : (m : ℕ) (up prefix : Bool) (e : tree.Expr) → deep-Kind (update_kind up prefix e) ≤ m
update_falls m up prefix (name x) = omega arith
update_falls m up prefix (member e x) = omega arith
update_falls m up prefix (index a b) = omega arith
update_falls m up prefix e = omega arith

assign_falls : (m : ℕ) (op : Option BinaryOp) (e : tree.Expr) → deep-Kind (assign_kind op e) ≤ m
assign_falls m op (name x) = omega arith
assign_falls m op (member e x) = omega arith
assign_falls m op (index a b) = omega arith
assign_falls m op e = omega arith

stmt_kind_falls : (m : ℕ) (s : tree.Stmt) → deep-Kind (stmt_kind s) ≤ m
stmt_kind_falls m (try a c l) = omega arith
stmt_kind_falls m s = omega arith

abbrev Fits : ℕ → tree.Expr → Type 0
Fits m e = (deep-Kind (expr_kind e) ≤ m) × Within m (expr_parts e)

one : (m : ℕ) (e : tree.Expr) → Fits m e → Within m (part (expr_node e) (expr_parts e))
one m e p = (p.0, p.1, tt)

two : (m : ℕ) (a b : tree.Expr) → Fits m a → Fits m b → Within m (join (part (expr_node a) (expr_parts a)) (part (expr_node b) (expr_parts b)))
two m a b p q = (p.0, p.1, (q.0, q.1, tt))

then_fits : (m : ℕ) (e : tree.Expr) (rest : Parts) → Fits m e → Within m rest → Within m (then_part (expr_node e) (expr_parts e) rest)
then_fits m e rest p h = (p.0, p.1, h)

-- statements in a block
block_fits : (m : ℕ) (ss : tree.Stmts) (rest : Parts) → Within m (stmts_parts ss) → Within m rest → Within m (then_part (block_node ss) (stmts_parts ss) rest)
block_fits m ss rest h g = (omega arith, h, g)

mutual
  expr_fits : (m : ℕ) (e : tree.Expr) → expr_size e ≤ m → Fits m e
  expr_fits m (list hs) h = (omega arith, holes_fit m hs (omega arith))
  expr_fits m (literal fs) h = (omega arith, fields_fit m fs (omega arith))
  expr_fits m (func c) h = (omega arith, tt)
  expr_fits m (member e x) h = (omega arith, one m e (expr_fits m e (omega arith)))
  expr_fits m (index a b) h = (omega arith, two m a b (expr_fits m a (omega arith)) (expr_fits m b (omega arith)))
  expr_fits m (call f es) h =
      (call_falls m f, joined m (of_place (is_property f) f (expr_parts f)) (exprs_parts es) (placed m (is_property f) f (expr_fits m f (omega arith))) (exprs_fit m es (omega arith)))
  expr_fits m (construct f es) h = (omega arith, then_fits m f (exprs_parts es) (expr_fits m f (omega arith)) (exprs_fit m es (omega arith)))
  expr_fits m (unary op e) h = (unary_falls m op e, placed m (takes_place op e) e (expr_fits m e (omega arith)))
  expr_fits m (update up prefix e) h = let p = expr_fits m e (omega arith) in (update_falls m up prefix e, p.1)
  expr_fits m (binary op a b) h = (omega arith, two m a b (expr_fits m a (omega arith)) (expr_fits m b (omega arith)))
  expr_fits m (logical_and a b) h = (omega arith, two m a b (expr_fits m a (omega arith)) (expr_fits m b (omega arith)))
  expr_fits m (logical_or a b) h = (omega arith, two m a b (expr_fits m a (omega arith)) (expr_fits m b (omega arith)))
  expr_fits m (conditional a b c) h =
      (omega arith, then_fits m a (join (part (expr_node b) (expr_parts b)) (part (expr_node c) (expr_parts c))) (expr_fits m a (omega arith)) (two m b c (expr_fits m b (omega arith)) (expr_fits m c (omega arith))))
  expr_fits m (assign op a b) h =
      let p = expr_fits m a (omega arith) in
      (assign_falls m op a, joined m (expr_parts a) (part (expr_node b) (expr_parts b)) p.1 (one m b (expr_fits m b (omega arith))))
  expr_fits m (comma es) h = (omega arith, exprs_fit m es (omega arith))
  expr_fits m e h = (omega arith, tt)

  exprs_fit : (m : ℕ) (es : tree.Exprs) → exprs_size es ≤ m → Within m (exprs_parts es)
  exprs_fit m no_exprs h = tt
  exprs_fit m (then_expr e es) h = then_fits m e (exprs_parts es) (expr_fits m e (omega arith)) (exprs_fit m es (omega arith))

  maybe_fits : (m : ℕ) (e : tree.MaybeExpr) → maybe_expr_size e ≤ m → Within m (maybe_expr_parts e)
  maybe_fits m no_expr h = tt
  maybe_fits m (one_expr e) h = one m e (expr_fits m e (omega arith))

  holes_fit : (m : ℕ) (hs : tree.Holes) → holes_size hs ≤ m → Within m (holes_parts hs)
  holes_fit m no_holes h = tt
  holes_fit m (then_hole e hs) h = joined m (maybe_expr_parts e) (holes_parts hs) (maybe_fits m e (omega arith)) (holes_fit m hs (omega arith))

  fields_fit : (m : ℕ) (fs : tree.Fields) → fields_size fs ≤ m → Within m (fields_parts fs)
  fields_fit m no_fields h = tt
  fields_fit m (then_field x e fs) h = then_fits m e (fields_parts fs) (expr_fits m e (omega arith)) (fields_fit m fs (omega arith))

  stmt_fits : (m : ℕ) (s : tree.Stmt) → stmt_size s ≤ m → Within m (stmt_parts s)
  stmt_fits m (var ds) h = declarators_fit m ds (omega arith)
  stmt_fits m (expr e) h = one m e (expr_fits m e (omega arith))
  stmt_fits m (block ss) h = stmts_fit m ss (omega arith)
  stmt_fits m (if_else e a b) h =
      then_fits m e (join (part (block_node a) (stmts_parts a)) (maybe_stmts_parts b)) (expr_fits m e (omega arith))
      (block_fits m a (maybe_stmts_parts b) (stmts_fit m a (omega arith)) (maybe_stmts_fit m b (omega arith)))
  stmt_fits m (do_while a e) h = block_fits m a (part (expr_node e) (expr_parts e)) (stmts_fit m a (omega arith)) (one m e (expr_fits m e (omega arith)))
  stmt_fits m (while e a) h =
      then_fits m e (part (block_node a) (stmts_parts a)) (expr_fits m e (omega arith)) (block_fits m a no_parts (stmts_fit m a (omega arith)) tt)
  stmt_fits m (for i t s a) h =
      joined m (init_parts i) (join (maybe_expr_parts t) (join (maybe_expr_parts s) (part (block_node a) (stmts_parts a)))) (init_fits m i (omega arith))
      (joined m (maybe_expr_parts t) (join (maybe_expr_parts s) (part (block_node a) (stmts_parts a))) (maybe_fits m t (omega arith))
      (joined m (maybe_expr_parts s) (part (block_node a) (stmts_parts a)) (maybe_fits m s (omega arith)) (block_fits m a no_parts (stmts_fit m a (omega arith)) tt)))
  stmt_fits m (for_in declared t e a) h =
      then_fits m t (join (part (expr_node e) (expr_parts e)) (part (block_node a) (stmts_parts a))) (expr_fits m t (omega arith))
      (then_fits m e (part (block_node a) (stmts_parts a)) (expr_fits m e (omega arith)) (block_fits m a no_parts (stmts_fit m a (omega arith)) tt))
  stmt_fits m (return e) h = maybe_fits m e (omega arith)
  stmt_fits m (throw e) h = one m e (expr_fits m e (omega arith))
  stmt_fits m (try a c l) h =
      block_fits m a (join (catch_parts c) (maybe_stmts_parts l)) (stmts_fit m a (omega arith))
      (joined m (catch_parts c) (maybe_stmts_parts l) (catch_fits m c (omega arith)) (maybe_stmts_fit m l (omega arith)))
  stmt_fits m (switch e cs) h = then_fits m e (cases_parts cs) (expr_fits m e (omega arith)) (cases_fit m cs (omega arith))
  stmt_fits m s h = tt

  stmts_fit : (m : ℕ) (ss : tree.Stmts) → stmts_size ss ≤ m → Within m (stmts_parts ss)
  stmts_fit m no_stmts h = tt
  stmts_fit m (then_stmt s ss) h = (stmt_kind_falls m s, stmt_fits m s (omega arith), stmts_fit m ss (omega arith))

  maybe_stmts_fit : (m : ℕ) (b : tree.MaybeStmts) → maybe_stmts_size b ≤ m → Within m (maybe_stmts_parts b)
  maybe_stmts_fit m no_body h = tt
  maybe_stmts_fit m (one_body ss) h = block_fits m ss no_parts (stmts_fit m ss (omega arith)) tt

  declarators_fit : (m : ℕ) (ds : tree.Declarators) → declarators_size ds ≤ m → Within m (declarators_parts ds)
  declarators_fit m no_declarators h = tt
  declarators_fit m (then_declarator x e ds) h =
      joined m (declarator_parts x e) (declarators_parts ds) (declarator_fits m x e (omega arith)) (declarators_fit m ds (omega arith))

  declarator_fits : (m : ℕ) (x : List ℕ) (e : tree.MaybeExpr) → maybe_expr_size e ≤ m → Within m (declarator_parts x e)
  declarator_fits m x no_expr h = tt
  declarator_fits m x (one_expr e) h = (omega arith, one m e (expr_fits m e (omega arith)), tt)

  init_fits : (m : ℕ) (i : tree.ForInit) → for_init_size i ≤ m → Within m (init_parts i)
  init_fits m no_init h = tt
  init_fits m (init_var ds) h = (omega arith, declarators_fit m ds (omega arith), tt)
  init_fits m (init_expr e) h = one m e (expr_fits m e (omega arith))

  catch_fits : (m : ℕ) (c : tree.MaybeCatch) → maybe_catch_size c ≤ m → Within m (catch_parts c)
  catch_fits m no_catch h = tt
  catch_fits m (one_catch x ss) h = block_fits m ss no_parts (stmts_fit m ss (omega arith)) tt

  cases_fit : (m : ℕ) (cs : tree.Cases) → cases_size cs ≤ m → Within m (cases_parts cs)
  cases_fit m no_cases h = tt
  cases_fit m (then_case e ss cs) h =
      joined m (maybe_expr_parts e) (then_part (block_node ss) (stmts_parts ss) (cases_parts cs)) (maybe_fits m e (omega arith))
      (block_fits m ss (cases_parts cs) (stmts_fit m ss (omega arith)) (cases_fit m cs (omega arith)))

abbrev RowsFall : ℕ → List Row → Type 0
RowsFall m [] = Unit {0}
RowsFall m (r ∷ rs) = (deep-Kind r.kind ≤ m) × RowsFall m rs

row_pushed : (m : ℕ) (rs : List Row) (r : Row) → RowsFall m rs → deep-Kind r.kind ≤ m → RowsFall m (rs ++ r ∷ [])
row_pushed m [] r h g = (g, tt)
row_pushed m (s ∷ rs) r h g = (h.0, row_pushed m rs r h.1 g)

rows_fall : (m : ℕ) (rows : List Row) (p : Parts) → RowsFall m rows → Within m p → RowsFall m (with_parts rows p)
rows_fall m rows no_parts h g = h
rows_fall m rows (then_part n inside p) h g =
    rows_fall m (with_parts rows inside ++ record { kind = node_kind n; parts = with_numbers rows [] inside } ∷ []) p
    (row_pushed m (with_parts rows inside) (record { kind = node_kind n; parts = with_numbers rows [] inside }) (rows_fall m rows inside h g.1) g.0) g.2
rows_fall m rows (then_none p) h g = rows_fall m rows p h g

entries_fall : (m : ℕ) (es : List Entry) → RowsFall m (map row_of es) → most deep-Entry es ≤ m
entries_fall m [] h = omega arith
entries_fall m (e ∷ es) h = let g = entries_fall m es h.1 in omega (arith, g, h.0)

-- the largest function of these rows
abbrev pub deepest : List Row → ℕ
deepest rows = most (λ r. deep-Kind r.kind) rows

rows_within : (m : ℕ) (rs : List Row) → RowsFall m rs → deepest rs ≤ m
rows_within m [] h = omega arith
rows_within m (r ∷ rs) h = let g = rows_within m rs h.1 in omega (arith, g, h.0)

unnamed_size : (c : tree.Code) → code_size (unnamed c) ≡ code_size c
unnamed_size (code x formals body) = refl

abbrev AllSmall : ℕ → List (Option (List ℕ) × tree.Code) → Type 0
AllSmall m [] = Unit {0}
AllSmall m (p ∷ ps) = (code_size p.1 + 1 ≤ m) × AllSmall m ps

functions_small : (m : ℕ) (ss : tree.Stmts) → stmts_size ss ≤ m → AllSmall m (functions_of ss)
functions_small m no_stmts h = tt
functions_small m (then_stmt (function c) ss) h = (omega (arith, unnamed_size c), functions_small m ss (omega arith))
functions_small m (then_stmt s ss) h = functions_small m ss (omega arith)

declared_fall : (m : ℕ) (ds : List Declared) → AllSmall m (map declared_as ds) → most deep-Declared ds ≤ m
declared_fall m [] h = omega arith
declared_fall m (d ∷ ds) h = let g = declared_fall m ds h.1 in omega (arith, g, h.0)

rows_of_code : (c : tree.Code) → RowsFall (code_size c) (rows_of c)
rows_of_code (code x formals body) = rows_fall (stmts_size body + 1) [] (part (block_node body) (stmts_parts body)) tt (block_fits (stmts_size body + 1) body no_parts (stmts_fit (stmts_size body + 1) body (omega arith)) tt)

-- no function inside a function is as large
pub rows_deepest : (c : tree.Code) → deepest (rows_of c) ≤ code_size c
rows_deepest c = rows_within (code_size c) (rows_of c) (rows_of_code c)

functions_of_code : (c : tree.Code) → AllSmall (code_size c) (functions_of (body_of c))
functions_of_code (code x formals body) = functions_small (stmts_size body + 1) body (omega arith)

pub table_falls : (f : Inside) → IsTable f.table.value → deep-FunctionCode f ≤ code_size (code_of f.table.value)
table_falls f t =
    let m = code_size (code_of f.table.value) in
    let P : List Row → Type 0 = λ rows. RowsFall m rows in
    let Q : List (Option (List ℕ) × tree.Code) → Type 0 = λ ps. AllSmall m ps in
    let a = entries_fall m f.table.value.entries.items (subst P (sym t.rows) (rows_of_code (code_of f.table.value))) in
    let b = declared_fall m f.table.value.functions.items (subst Q (sym t.functions) (functions_of_code (code_of f.table.value))) in
    let nothing : deep-Kind f.table.value.nothing ≡ 0 = ap deep-Kind t.nothing in
    omega (arith, a, b, nothing)
