-- Which trees may stand in which frames, and where both runs of one tree stand.
use Rattle.std.specs.Prelude.{◌≡◌, ℕ, Bool, true, false, not, ◌&&◌, List, [], ◌∷◌, Option, Some, None, is_some}
use Rattle.js_core.specs.Tree as tree
use Rattle.js_core.specs.Tree.{name, num, text, bool, null, this, list, literal, func, member, index, call, construct, unary, update, binary, logical_and, logical_or, conditional, assign, comma, no_exprs, then_expr, no_expr, one_expr, no_holes, then_hole, no_fields, then_field, code, var, function, expr, empty, block, if_else, do_while, while, for, for_in, continue, break, return, throw, try, switch, no_stmts, then_stmt, no_body, one_body, no_declarators, then_declarator, no_init, init_var, init_expr, no_catch, one_catch, no_cases, then_case}
use Rattle.object_heap.specs.Environment.{value_of}
use Rattle.page_meaning.specs.Functions.{entry_names}
use Rattle.page_meaning.specs.Store.{Store}
use Rattle.scope_analysis.specs.Names.{is_among}
use Rattle.heap_relations.specs.Naming.{Absent, Constant, Fixed, Frame, Free, Itself, Kept, Place, resolve, World}
use Rattle.agreement.specs.Acts.{StoreRel}

-- ---- frames

-- a name that is bound or not, and constant or not
abbrev pub bound_where : Bool → Bool → Kept
bound_where true true = Constant
bound_where true false = Free
bound_where false constant = Absent

abbrev pub free_where : Bool → Kept
free_where bound = bound_where bound false

-- these names are declared, and the right has them as they are
abbrev pub frame_of : List (List ℕ) → Frame
frame_of xs = record { keeps = λ x. free_where (is_among x xs); scoped = false; number = 0 }

-- what a function binds when it is entered
abbrev pub entry_frame : List (List ℕ) → tree.Stmts → Frame
entry_frame formals body = record { keeps = λ x. free_where (is_some (value_of (entry_names formals body []) x)); scoped = false; number = 0 }

-- round the code of a function expression in these frames: where it has a name, an environment binds it
abbrev pub own_frames : Option (List ℕ) → List Frame → List Frame
own_frames None fs = fs
own_frames (Some x) fs = frame_of (x ∷ []) ∷ fs

-- ---- which names may be used

-- a name that is bound as itself, or one that is never assigned and here neither
abbrev pub is_reached : Bool → Place → Bool
is_reached assigns Itself = true
is_reached assigns Fixed = not assigns
is_reached assigns p = false

-- a target, from whether it fits as an expression
abbrev pub target_fits : List Frame → tree.Expr → Bool → Bool
target_fits fs (name x) fits = is_reached true (resolve fs x)
target_fits fs e fits = fits

-- each name is reached from where it is used
abbrev mutual
  pub expr_fits : List Frame → tree.Expr → Bool
  expr_fits fs (name x) = is_reached false (resolve fs x)
  expr_fits fs (num n) = true
  expr_fits fs (text x) = true
  expr_fits fs (bool b) = true
  expr_fits fs null = true
  expr_fits fs this = true
  expr_fits fs (list es) = holes_fit fs es
  expr_fits fs (literal es) = fields_fit fs es
  expr_fits fs (func (code x formals body)) =
      stmts_fit (entry_frame formals body ∷ own_frames x fs) body
  expr_fits fs (member e x) = expr_fits fs e
  expr_fits fs (index a b) = expr_fits fs a && expr_fits fs b
  expr_fits fs (call e es) = expr_fits fs e && exprs_fit fs es
  expr_fits fs (construct e es) = expr_fits fs e && exprs_fit fs es
  expr_fits fs (unary op a) = expr_fits fs a
  expr_fits fs (update up prefix a) = target_fits fs a (expr_fits fs a)
  expr_fits fs (binary op a b) = expr_fits fs a && expr_fits fs b
  expr_fits fs (logical_and a b) = expr_fits fs a && expr_fits fs b
  expr_fits fs (logical_or a b) = expr_fits fs a && expr_fits fs b
  expr_fits fs (conditional a b c) = expr_fits fs a && (expr_fits fs b && expr_fits fs c)
  expr_fits fs (assign op a b) = target_fits fs a (expr_fits fs a) && expr_fits fs b
  expr_fits fs (comma es) = exprs_fit fs es

  pub exprs_fit : List Frame → tree.Exprs → Bool
  exprs_fit fs no_exprs = true
  exprs_fit fs (then_expr e es) = expr_fits fs e && exprs_fit fs es

  pub maybe_fits : List Frame → tree.MaybeExpr → Bool
  maybe_fits fs no_expr = true
  maybe_fits fs (one_expr e) = expr_fits fs e

  pub holes_fit : List Frame → tree.Holes → Bool
  holes_fit fs no_holes = true
  holes_fit fs (then_hole e es) = maybe_fits fs e && holes_fit fs es

  pub fields_fit : List Frame → tree.Fields → Bool
  fields_fit fs no_fields = true
  fields_fit fs (then_field x e es) = expr_fits fs e && fields_fit fs es

  pub stmt_fits : List Frame → tree.Stmt → Bool
  stmt_fits fs (var ds) = declarators_fit fs ds
  -- a declared function is held without its name
  stmt_fits fs (function (code x formals body)) =
      stmts_fit (entry_frame formals body ∷ fs) body
  stmt_fits fs (expr e) = expr_fits fs e
  stmt_fits fs empty = true
  stmt_fits fs (block ss) = stmts_fit fs ss
  stmt_fits fs (if_else e a b) = expr_fits fs e && (stmts_fit fs a && maybe_body_fits fs b)
  stmt_fits fs (do_while body e) = stmts_fit fs body && expr_fits fs e
  stmt_fits fs (while e body) = expr_fits fs e && stmts_fit fs body
  stmt_fits fs (for i t s body) = init_fits fs i && (maybe_fits fs t && (maybe_fits fs s && stmts_fit fs body))
  stmt_fits fs (for_in declared t e body) = target_fits fs t (expr_fits fs t) && (expr_fits fs e && stmts_fit fs body)
  stmt_fits fs continue = true
  stmt_fits fs break = true
  stmt_fits fs (return e) = maybe_fits fs e
  stmt_fits fs (throw e) = expr_fits fs e
  stmt_fits fs (try b c l) = stmts_fit fs b && (catch_fits fs c && maybe_body_fits fs l)
  stmt_fits fs (switch e cs) = expr_fits fs e && cases_fit fs cs

  pub stmts_fit : List Frame → tree.Stmts → Bool
  stmts_fit fs no_stmts = true
  stmts_fit fs (then_stmt s ss) = stmt_fits fs s && stmts_fit fs ss

  pub maybe_body_fits : List Frame → tree.MaybeStmts → Bool
  maybe_body_fits fs no_body = true
  maybe_body_fits fs (one_body ss) = stmts_fit fs ss

  pub declarators_fit : List Frame → tree.Declarators → Bool
  declarators_fit fs no_declarators = true
  declarators_fit fs (then_declarator x e ds) = declarator_fits fs x e && declarators_fit fs ds

  pub declarator_fits : List Frame → List ℕ → tree.MaybeExpr → Bool
  declarator_fits fs x no_expr = true
  declarator_fits fs x (one_expr e) = is_reached true (resolve fs x) && expr_fits fs e

  pub init_fits : List Frame → tree.ForInit → Bool
  init_fits fs no_init = true
  init_fits fs (init_var ds) = declarators_fit fs ds
  init_fits fs (init_expr e) = expr_fits fs e

  pub catch_fits : List Frame → tree.MaybeCatch → Bool
  catch_fits fs no_catch = true
  catch_fits fs (one_catch x ss) = stmts_fit (frame_of (x ∷ []) ∷ fs) ss

  pub cases_fit : List Frame → tree.Cases → Bool
  cases_fit fs no_cases = true
  cases_fit fs (then_case e ss cs) = maybe_fits fs e && (stmts_fit fs ss && cases_fit fs cs)

-- a function's code, in the frames round it
abbrev pub code_fits : List Frame → tree.Code → Bool
code_fits fs (code x formals body) = stmts_fit (entry_frame formals body ∷ fs) body

-- a script stands in no frames
abbrev pub scripts_fit : List tree.Stmts → Bool
scripts_fit [] = true
scripts_fit (body ∷ bodies) = stmts_fit [] body && scripts_fit bodies

-- ---- one tree on both sides

-- no variable is in a scope object, and the code of a function is the same on both sides
pub record HasEqualTrees (W : World) : Type 0 where
  pub opens : W.opens ≡ false
  pub opened : (n : ℕ) (fs : List Frame) (c : tree.Code) → W.opened n fs c ≡ c
  pub fits : (n : ℕ) (fs : List Frame) (c : tree.Code) → W.fits n fs c ≡ code_fits fs c

-- ---- pages that agree with themselves

-- for a naming whose trees are equal
pub record AgreesWithItself (s : Store) : Type 0 where
  pub world : World
  pub trees : HasEqualTrees world
  pub stores : StoreRel world s s
