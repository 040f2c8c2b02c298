-- Which trees may be opened on the right, and in which frames: there each captured variable stands in a scope object.
use Rattle.std.specs.Prelude.{◌≡◌, ℕ, ◌+◌, Bool, true, false, not, ◌&&◌, ◌||◌, nat_lt, bytes_eq, List, [], ◌∷◌, ◌++◌, Option, Some, None, is_some, if◌then◌else◌}
use Rattle.std.specs.List.{list_all}
use Rattle.js_core.specs.declared.operators.UnaryOp.{UnaryOp}
use Rattle.js_core.specs.declared.operators.UnaryOp.TheVariants.{Delete}
use Rattle.js_core.specs.Tree as tree
use Rattle.js_core.specs.Tree.{name, num, text, bool, null, this, list, literal, func, member, index, call, construct, unary, update, binary, logical_and, logical_or, conditional, assign, comma, no_exprs, then_expr, no_expr, one_expr, no_holes, then_hole, no_fields, then_field, code, var, function, expr, empty, block, if_else, do_while, while, for, for_in, continue, break, return, throw, try, switch, no_stmts, then_stmt, no_body, one_body, no_declarators, then_declarator, no_init, init_var, init_expr, no_catch, one_catch, no_cases, then_case}
use Rattle.object_heap.specs.Environment.{value_of}
use Rattle.page_meaning.specs.Functions.{Declared, entry_names}
use Rattle.page_meaning.specs.Names.{Here}
use Rattle.scope_analysis.specs.Names.{declared_names, has_repeat, is_among, maybe_name, own_name}
use Rattle.instrumenter.specs.Around.{Around, next_number, opened_fields}
use Rattle.instrumenter.specs.Counting.{catch_scopes, expr_scopes, init_scopes, maybe_expr_scopes, stmt_scopes, stmts_scopes}
use Rattle.instrumenter.specs.Fields.{clause_fields, expression_fields, has_fields}
use Rattle.instrumenter.specs.Opening.{open_code}
use Rattle.heap_relations.specs.Naming.{are_below, Captured, Copied, Copy, Fixed, Frame, InScope, is_reserved, Itself, Kept, Larger, named, Nowhere, Place, resolve, Round, Sealed, World}
use Rattle.heap_relations.specs.Related.{Each, ValueRel}
use Rattle.heap_relations.specs.Scope.{own_frame}
use Rattle.code_table.specs.Declarations.{functions_of}
use Rattle.script_rules.specs.Form.{are_plain_fields}
use Rattle.js_values.specs.declared.ids.EnvId.{EnvId}
use Rattle.js_values.specs.declared.value.Value.{Value}
use Rattle.js_values.specs.declared.value.Value.TheVariants.{Object, Undefined}
use Rattle.object_heap.specs.Chain.{object_at}
use Rattle.object_heap.specs.declared.object.Class.TheVariants as class
use Rattle.page_meaning.specs.Act.{Act, Calls}
use Rattle.page_meaning.specs.Store.{Store}
use Rattle.agreement.specs.Acts.{Agrees, CallsRel, IsReady, StoreRel}
use Rattle.agreement.specs.Trees.{bound_where, frame_of}

-- opens: whether trees are opened on the right; names: whether the names of function expressions are sealed; seals, boxes: which names of
-- a function, and which parameters of catch clauses, are constant; spares: which functions that are called at once nothing refers to;
-- asks: a test that the code of each other function passes, in its frames
pub record Demand : Type 0 where
  pub opens : Bool
  pub names : Bool
  pub seals : List (List ℕ) → tree.Stmts → List ℕ → Bool
  pub boxes : List ℕ → tree.Stmts → Bool
  pub spares : tree.Code → Bool
  pub asks : List Frame → tree.Code → Bool

-- of opened trees
abbrev pub opening : Demand
opening = record { opens = true; names = true; seals = λ xs ss x. false; boxes = λ x ss. false; spares = λ c. false; asks = λ fs c. true }

-- of equal trees
abbrev pub equal : Demand
equal = record { opens = false; names = false; seals = λ xs ss x. false; boxes = λ x ss. false; spares = λ c. false; asks = λ fs c. true }

-- ---- what a name stands for

-- the scope object that has a name
abbrev pub field_at : Place → Option ℕ
field_at (InScope n) = Some n
field_at (Copy n) = Some n
field_at p = None

abbrev pub opened_at : Bool → Place → Option ℕ
opened_at true p = field_at p
opened_at false p = None

-- what stands round code in these frames
abbrev pub around_of : Bool → List Frame → Around
around_of opens fs = record { opens = opens; fields = λ x. opened_at opens (resolve fs x); own = λ x. false }

-- a function's code on the right
abbrev pub opened_code : Bool → ℕ → List Frame → tree.Code → tree.Code
opened_code opens n fs c = open_code (around_of opens fs) n (own_name c) (expression_fields c) c

-- ---- frames

-- a name that is a field of the scope object or not
abbrev pub kept_in : Bool → Bool → Bool → Kept
kept_in true true constant = Captured
kept_in true false constant = Copied
kept_in false bound constant = bound_where bound constant

abbrev pub number_in : List (List ℕ) → ℕ → ℕ
number_in [] n = 0
number_in (x ∷ xs) n = n

-- where the scope object n, if there is one, has these fields
abbrev pub scope_frame : List (List ℕ) → ℕ → (List ℕ → Bool) → (List ℕ → Bool) → Frame
scope_frame fields n bound constant = record { keeps = λ x. kept_in (is_among x fields) (bound x) (constant x); scoped = has_fields fields; number = number_in fields n }

-- the left binds the name when it enters the function
abbrev pub is_bound : List (List ℕ) → tree.Stmts → List ℕ → Bool
is_bound formals body x = is_some (value_of (entry_names formals body []) x)

abbrev pub function_frame : Demand → List (List ℕ) → ℕ → List (List ℕ) → tree.Stmts → Frame
function_frame d fields n formals body = scope_frame fields n (is_bound formals body) (d.seals formals body)

abbrev pub clause_frame : Demand → List (List ℕ) → ℕ → List ℕ → tree.Stmts → Frame
clause_frame d fields n x ss = scope_frame fields n (λ y. is_among y (x ∷ [])) (λ y. d.boxes x ss)

abbrev pub name_frame : Bool → List ℕ → Frame
name_frame true x = own_frame x
name_frame false x = frame_of (x ∷ [])

-- round the code of a function expression
abbrev pub frames_round : Bool → Option (List ℕ) → List Frame → List Frame
frames_round names None fs = fs
frames_round names (Some x) fs = name_frame names x ∷ fs

-- ---- the first statement of a scope, which sets its constant

abbrev pub declares_none : Declared → Bool
declares_none [] = true
declares_none (c ∷ cs) = false

-- it is `x={..};` or `var x={..};`, for a name that passes the test
abbrev pub sets : (List ℕ → Bool) → tree.Stmt → Bool
sets constant (var (then_declarator x (one_expr (literal es)) no_declarators)) = constant x
sets constant (expr (assign None (name x) (literal es))) = constant x
sets constant s = false

-- the first of these statements, among which no function is declared
abbrev pub begins_with_set : (List ℕ → Bool) → tree.Stmts → Bool
begins_with_set constant no_stmts = false
begins_with_set constant (then_stmt s ss) = sets constant s && declares_none (functions_of (then_stmt s ss))

-- a name that is constant is a formal that nothing declares again, or is set by the first statement
abbrev pub is_sure : (List ℕ → Bool) → List (List ℕ) → tree.Stmts → List ℕ → Bool
is_sure constant formals body x =
    not (constant x)
    || (if is_among x formals then not (is_among x (declared_names body))
    else begins_with_set (bytes_eq x) body)

abbrev pub are_sure : (List ℕ → Bool) → List (List ℕ) → tree.Stmts → Bool
are_sure constant formals body = list_all (is_sure constant formals body) (formals ++ declared_names body)

-- ---- what may stand where

-- a place that may be read, or assigned
abbrev pub may_use : Bool → Bool → Place → Bool
may_use opens assigns Itself = true
may_use opens assigns (InScope n) = opens
may_use opens assigns (Copy n) = opens && not assigns
may_use opens assigns Fixed = not assigns
may_use opens assigns Nowhere = false

abbrev pub name_stands : Demand → Bool → List Frame → List ℕ → Bool
name_stands d assigns fs x = not (is_reserved d.opens x) && may_use d.opens assigns (resolve fs x)

-- a target, from whether it stands as an expression
abbrev pub target_stands : Demand → List Frame → tree.Expr → Bool → Bool
target_stands d fs (name x) stands = name_stands d true fs x
target_stands d fs e stands = stands

-- `delete` of a name is not one of a field
abbrev pub deletes_no_field : Bool → UnaryOp → List Frame → tree.Expr → Bool
deletes_no_field opens Delete fs (name x) = not (is_some (opened_at opens (resolve fs x)))
deletes_no_field opens op fs e = true

-- no name of the page is a scope object's
abbrev pub are_plain : Bool → List (List ℕ) → Bool
are_plain opens xs = list_all (λ x. not (is_reserved opens x)) xs

-- scope objects have numbers, which are larger further inside
abbrev pub is_numbered : ℕ → List (List ℕ) → List Frame → Bool
is_numbered n [] fs = true
is_numbered n (x ∷ xs) fs = nat_lt n 18446744073709551616 && are_below n fs

-- the function's own name, which the environment round it has
abbrev pub is_sealed : Kept → Bool
is_sealed Sealed = true
is_sealed k = false

abbrev pub is_round : List Frame → List ℕ → Bool
is_round [] x = false
is_round (f ∷ fs) x = is_sealed (f.keeps x)

-- what is asked where trees are opened: a scope object has what the function binds or its own name, each once
abbrev pub may_open : Bool → ℕ → List Frame → Option (List ℕ) → List (List ℕ) → List (List ℕ) → tree.Stmts → Bool
may_open false n fs own fields formals body = true
may_open true n fs own fields formals body =
    is_numbered n fields fs && (are_plain true (fields ++ (formals ++ declared_names body))
    && (list_all (is_bound formals body) (declared_names body)
    && (list_all (λ x. is_bound formals body x || (is_among x (maybe_name own) && is_round fs x)) fields
    && (list_all (λ x. not (is_some (opened_at true (resolve fs x)))) (maybe_name own) && not (has_repeat fields)))))

abbrev pub clause_may_open : Bool → ℕ → List Frame → List (List ℕ) → List ℕ → Bool
clause_may_open false n fs fields x = true
clause_may_open true n fs fields x = is_numbered n fields fs && are_plain true (x ∷ [])

-- a name that the function binds and keeps as a constant
abbrev pub is_constant : Demand → List (List ℕ) → tree.Stmts → List ℕ → Bool
is_constant d formals body x = is_bound formals body x && d.seals formals body x

-- n is the number of the next scope object
abbrev mutual
  pub expr_stands : Demand → ℕ → List Frame → tree.Expr → Bool
  expr_stands d n fs (name x) = name_stands d false fs x
  expr_stands d n fs (num k) = true
  expr_stands d n fs (text x) = true
  expr_stands d n fs (bool b) = true
  expr_stands d n fs null = true
  expr_stands d n fs this = true
  expr_stands d n fs (list es) = holes_stand d n fs es
  expr_stands d n fs (literal es) = fields_stand d n fs es
  expr_stands d n fs (func (code x formals body)) =
      are_plain d.opens (maybe_name x) && (d.asks (frames_round d.names x fs) (code x formals body)
      && (may_open d.opens n (frames_round d.names x fs) (own_name (code x formals body)) (opened_fields d.opens (expression_fields (code x formals body))) formals body
      && (are_sure (d.seals formals body) formals body
      && (if begins_with_set (is_constant d formals body) body
      then rest_stands d (next_number (opened_fields d.opens (expression_fields (code x formals body))) n)
      (function_frame d (opened_fields d.opens (expression_fields (code x formals body))) n formals body ∷ frames_round d.names x fs) body
      else stmts_stand d (next_number (opened_fields d.opens (expression_fields (code x formals body))) n)
      (function_frame d (opened_fields d.opens (expression_fields (code x formals body))) n formals body ∷ frames_round d.names x fs) body))))
  expr_stands d n fs (member e x) = expr_stands d n fs e
  expr_stands d n fs (index a b) = expr_stands d n fs a && expr_stands d (n + expr_scopes a) fs b
  expr_stands d n fs (call e es) = callee_stands d n fs e (expr_stands d n fs e) && exprs_stand d (n + expr_scopes e) fs es
  expr_stands d n fs (construct e es) = expr_stands d n fs e && exprs_stand d (n + expr_scopes e) fs es
  expr_stands d n fs (unary op a) = deletes_no_field d.opens op fs a && expr_stands d n fs a
  expr_stands d n fs (update up prefix a) = target_stands d fs a (expr_stands d n fs a)
  expr_stands d n fs (binary op a b) = expr_stands d n fs a && expr_stands d (n + expr_scopes a) fs b
  expr_stands d n fs (logical_and a b) = expr_stands d n fs a && expr_stands d (n + expr_scopes a) fs b
  expr_stands d n fs (logical_or a b) = expr_stands d n fs a && expr_stands d (n + expr_scopes a) fs b
  expr_stands d n fs (conditional a b c) =
      expr_stands d n fs a && (expr_stands d (n + expr_scopes a) fs b && expr_stands d ((n + expr_scopes a) + expr_scopes b) fs c)
  expr_stands d n fs (assign op a b) = target_stands d fs a (expr_stands d n fs a) && expr_stands d (n + expr_scopes a) fs b
  expr_stands d n fs (comma es) = exprs_stand d n fs es

  -- a callee, from whether it stands as an expression: a function that is called at once may be one that nothing refers to
  pub callee_stands : Demand → ℕ → List Frame → tree.Expr → Bool → Bool
  callee_stands d n fs (func (code None formals body)) stands =
      (d.spares (code None formals body) || d.asks fs (code None formals body))
      && (may_open d.opens n fs (own_name (code None formals body)) (opened_fields d.opens (expression_fields (code None formals body))) formals body
      && (are_sure (d.seals formals body) formals body
      && (if begins_with_set (is_constant d formals body) body
      then rest_stands d (next_number (opened_fields d.opens (expression_fields (code None formals body))) n)
      (function_frame d (opened_fields d.opens (expression_fields (code None formals body))) n formals body ∷ fs) body
      else stmts_stand d (next_number (opened_fields d.opens (expression_fields (code None formals body))) n)
      (function_frame d (opened_fields d.opens (expression_fields (code None formals body))) n formals body ∷ fs) body)))
  callee_stands d n fs e stands = stands

  pub exprs_stand : Demand → ℕ → List Frame → tree.Exprs → Bool
  exprs_stand d n fs no_exprs = true
  exprs_stand d n fs (then_expr e es) = expr_stands d n fs e && exprs_stand d (n + expr_scopes e) fs es

  pub maybe_stands : Demand → ℕ → List Frame → tree.MaybeExpr → Bool
  maybe_stands d n fs no_expr = true
  maybe_stands d n fs (one_expr e) = expr_stands d n fs e

  pub holes_stand : Demand → ℕ → List Frame → tree.Holes → Bool
  holes_stand d n fs no_holes = true
  holes_stand d n fs (then_hole e es) = maybe_stands d n fs e && holes_stand d (n + maybe_expr_scopes e) fs es

  pub fields_stand : Demand → ℕ → List Frame → tree.Fields → Bool
  fields_stand d n fs no_fields = true
  fields_stand d n fs (then_field x e es) = expr_stands d n fs e && fields_stand d (n + expr_scopes e) fs es

  pub stmt_stands : Demand → ℕ → List Frame → tree.Stmt → Bool
  stmt_stands d n fs (var ds) = declarators_stand d n fs ds
  -- a declared function is held without its name
  stmt_stands d n fs (function (code x formals body)) =
      are_plain d.opens (maybe_name x) && (d.asks fs (code None formals body)
      && (may_open d.opens n fs (own_name (code None formals body)) (opened_fields d.opens (expression_fields (code None formals body))) formals body
      && (are_sure (d.seals formals body) formals body
      && (if begins_with_set (is_constant d formals body) body
      then rest_stands d (next_number (opened_fields d.opens (expression_fields (code None formals body))) n)
      (function_frame d (opened_fields d.opens (expression_fields (code None formals body))) n formals body ∷ fs) body
      else stmts_stand d (next_number (opened_fields d.opens (expression_fields (code None formals body))) n)
      (function_frame d (opened_fields d.opens (expression_fields (code None formals body))) n formals body ∷ fs) body))))
  stmt_stands d n fs (expr e) = expr_stands d n fs e
  stmt_stands d n fs empty = true
  stmt_stands d n fs (block ss) = stmts_stand d n fs ss
  stmt_stands d n fs (if_else e a b) =
      expr_stands d n fs e && (stmts_stand d (n + expr_scopes e) fs a && maybe_body_stands d ((n + expr_scopes e) + stmts_scopes a) fs b)
  stmt_stands d n fs (do_while body e) = stmts_stand d n fs body && expr_stands d (n + stmts_scopes body) fs e
  stmt_stands d n fs (while e body) = expr_stands d n fs e && stmts_stand d (n + expr_scopes e) fs body
  stmt_stands d n fs (for i t s body) =
      init_stands d n fs i && (maybe_stands d (n + init_scopes i) fs t
      && (maybe_stands d ((n + init_scopes i) + maybe_expr_scopes t) fs s
      && stmts_stand d (((n + init_scopes i) + maybe_expr_scopes t) + maybe_expr_scopes s) fs body))
  stmt_stands d n fs (for_in declared t e body) =
      target_stands d fs t (expr_stands d n fs t) && (expr_stands d (n + expr_scopes t) fs e
      && stmts_stand d ((n + expr_scopes t) + expr_scopes e) fs body)
  stmt_stands d n fs continue = true
  stmt_stands d n fs break = true
  stmt_stands d n fs (return e) = maybe_stands d n fs e
  stmt_stands d n fs (throw e) = expr_stands d n fs e
  stmt_stands d n fs (try b c l) =
      stmts_stand d n fs b && (catch_stands d (n + stmts_scopes b) fs c && maybe_body_stands d ((n + stmts_scopes b) + catch_scopes c) fs l)
  stmt_stands d n fs (switch e cs) = expr_stands d n fs e && cases_stand d (n + expr_scopes e) fs cs

  pub stmts_stand : Demand → ℕ → List Frame → tree.Stmts → Bool
  stmts_stand d n fs no_stmts = true
  stmts_stand d n fs (then_stmt s ss) = stmt_stands d n fs s && stmts_stand d (n + stmt_scopes s) fs ss

  -- statements of which the first sets the constant of the innermost scope
  pub rest_stands : Demand → ℕ → List Frame → tree.Stmts → Bool
  rest_stands d n fs no_stmts = false
  rest_stands d n fs (then_stmt s ss) = set_stands d n fs s && stmts_stand d (n + stmt_scopes s) fs ss

  pub set_stands : Demand → ℕ → List Frame → tree.Stmt → Bool
  set_stands d n fs (var (then_declarator x (one_expr (literal es)) no_declarators)) = are_plain_fields es && fields_stand d n fs es
  set_stands d n fs (expr (assign None (name x) (literal es))) = are_plain_fields es && fields_stand d n fs es
  set_stands d n fs s = false

  pub maybe_body_stands : Demand → ℕ → List Frame → tree.MaybeStmts → Bool
  maybe_body_stands d n fs no_body = true
  maybe_body_stands d n fs (one_body ss) = stmts_stand d n fs ss

  pub declarators_stand : Demand → ℕ → List Frame → tree.Declarators → Bool
  declarators_stand d n fs no_declarators = true
  declarators_stand d n fs (then_declarator x e ds) = declarator_stands d n fs x e && declarators_stand d (n + maybe_expr_scopes e) fs ds

  pub declarator_stands : Demand → ℕ → List Frame → List ℕ → tree.MaybeExpr → Bool
  declarator_stands d n fs x no_expr = true
  declarator_stands d n fs x (one_expr e) = name_stands d true fs x && expr_stands d n fs e

  pub init_stands : Demand → ℕ → List Frame → tree.ForInit → Bool
  init_stands d n fs no_init = true
  init_stands d n fs (init_var ds) = declarators_stand d n fs ds
  init_stands d n fs (init_expr e) = expr_stands d n fs e

  pub catch_stands : Demand → ℕ → List Frame → tree.MaybeCatch → Bool
  catch_stands d n fs no_catch = true
  catch_stands d n fs (one_catch x ss) =
      clause_may_open d.opens n fs (opened_fields d.opens (clause_fields x ss)) x
      && (if d.boxes x ss
      then begins_with_set (bytes_eq x) ss
      && rest_stands d (next_number (opened_fields d.opens (clause_fields x ss)) n) (clause_frame d (opened_fields d.opens (clause_fields x ss)) n x ss ∷ fs) ss
      else stmts_stand d (next_number (opened_fields d.opens (clause_fields x ss)) n) (clause_frame d (opened_fields d.opens (clause_fields x ss)) n x ss ∷ fs) ss)

  pub cases_stand : Demand → ℕ → List Frame → tree.Cases → Bool
  cases_stand d n fs no_cases = true
  cases_stand d n fs (then_case e ss cs) =
      maybe_stands d n fs e && (stmts_stand d (n + maybe_expr_scopes e) fs ss && cases_stand d ((n + maybe_expr_scopes e) + stmts_scopes ss) fs cs)

-- the body of a function or a clause, in its frame and those round it; whether its first statement sets the constant
abbrev pub body_stands : Bool → Demand → ℕ → List Frame → tree.Stmts → Bool
body_stands first d n fs body = if first then rest_stands d n fs body else stmts_stand d n fs body

-- what a function's code is asked for where it is called, in the frames round it
abbrev pub code_stands : Demand → ℕ → List Frame → tree.Code → Bool
code_stands d n fs (code x formals body) =
    may_open d.opens n fs (own_name (code x formals body)) (opened_fields d.opens (expression_fields (code x formals body))) formals body
    && (are_sure (d.seals formals body) formals body
    && body_stands (begins_with_set (is_constant d formals body) body) d (next_number (opened_fields d.opens (expression_fields (code x formals body))) n)
    (function_frame d (opened_fields d.opens (expression_fields (code x formals body))) n formals body ∷ fs) body)

-- and where something may refer to it
abbrev pub function_stands : Demand → ℕ → List Frame → tree.Code → Bool
function_stands d n fs c = d.asks fs c && code_stands d n fs c

-- scripts stand in no frames
abbrev pub scripts_stand : Demand → ℕ → List tree.Stmts → Bool
scripts_stand d n [] = true
scripts_stand d n (body ∷ bodies) = stmts_stand d n [] body && scripts_stand d (n + stmts_scopes body) bodies

-- ---- where both stand

-- where trees are opened, nothing else is asked for
abbrev pub IsOpening : Demand → Type 0
IsOpening d = d ≡ opening

-- the code of a function on the right is opened, where the right has scope objects. Each function passes a test
pub record HasTrees (W : World) : Type 0 where
  pub demand : Demand
  pub opens : W.opens ≡ demand.opens
  pub opened : (n : ℕ) (fs : List Frame) (c : tree.Code) → W.opened n fs c ≡ opened_code demand.opens n fs c
  pub fits : (n : ℕ) (fs : List Frame) (c : tree.Code) → W.fits n fs c ≡ function_stands demand n fs c
  pub bases : demand.opens ≡ true → W.bases ≡ []
  pub opening : demand.opens ≡ true → IsOpening demand

-- both stand in these frames, with related `this`; and what is round the tree on the right says what its names stand for
pub record HereRel (V : World) (k : Around) (fs : List Frame) (a b : Here) : Type 0 where
  pub trees : HasTrees V
  pub opens : k.opens ≡ trees.demand.opens
  pub fields : k.fields ≡ (λ x. opened_at trees.demand.opens (resolve fs x))
  pub own : trees.demand.opens ≡ false → (x : List ℕ) → k.own x ≡ false
  pub round : Round V fs a.env b.env
  pub ready : IsReady V a.env
  pub this : ValueRel (named V) a.this b.this

-- ---- calls of functions to which nothing refers

-- what a call of a function of the page does, with undefined as `this`, from its code and what is round it
pub record Entering (c : Calls) : Type 0 where
  pub entry : tree.Code → Option EnvId → List Value → Act
  pub same : (s : Store) (n k : ℕ) (code : tree.Code) (env : Option EnvId) (vs : List Value) → (object_at s.heap.objects k).class ≡ class.Page code env
      → (c.call (Object (record { 0 = k })) Undefined vs).run s n ≡ (entry code env vs).run s n

-- what functions do agrees, and so does what code does that stands
pub record PageCallsRel (V : World) (c d : Calls) : Type 0 where
  pub calls : CallsRel V c d
  pub left : Entering c
  pub right : Entering d
  pub enter : (W : World) → Larger V W → (trees : HasTrees W) (n : ℕ) (fs : List Frame) (code : tree.Code) (e f : Option EnvId) {vs ws : List Value} → Round W fs e f → IsReady W e
      → code_stands trees.demand n fs code ≡ true → Each (ValueRel (named W)) vs ws → Agrees W (left.entry code e vs) (right.entry (opened_code trees.demand.opens n fs code) f ws)

-- a page agrees with itself, and its functions stand so. None of them was rebuilt
pub record AgreesStanding (d : Demand) (s : Store) : Type 0 where
  pub world : World
  pub trees : HasTrees world
  pub demanded : trees.demand ≡ d
  pub none_rebuilt : world.bases ≡ []
  pub stores : StoreRel world s s
