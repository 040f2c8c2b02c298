-- Pure syntax trees: what contracts see of the trees of `src/syntax.rt`.
use Rattle.std.specs.Prelude.{ℕ, ℤ, Bool, List, [], ◌∷◌, Option, Some, None}
use Rattle.js_core.specs.declared.operators.UnaryOp.{UnaryOp}
use Rattle.js_core.specs.declared.operators.BinaryOp.{BinaryOp}

mutual
  pub data Expr : Type 0 where
    name : List ℕ → Expr
    -- a number, or NaN where there is none
    num : Option ℤ → Expr
    text : List ℕ → Expr
    bool : Bool → Expr
    null : Expr
    this : Expr
    list : Holes → Expr
    literal : Fields → Expr
    func : Code → Expr
    member : Expr → List ℕ → Expr
    index : Expr → Expr → Expr
    call : Expr → Exprs → Expr
    construct : Expr → Exprs → Expr
    unary : UnaryOp → Expr → Expr
    -- whether it is `++`, whether it stands before its target, and the target
    update : Bool → Bool → Expr → Expr
    binary : BinaryOp → Expr → Expr → Expr
    logical_and : Expr → Expr → Expr
    logical_or : Expr → Expr → Expr
    conditional : Expr → Expr → Expr → Expr
    -- no operator is `=`
    assign : Option BinaryOp → Expr → Expr → Expr
    comma : Exprs → Expr

  pub data Exprs : Type 0 where
    no_exprs : Exprs
    then_expr : Expr → Exprs → Exprs

  pub data MaybeExpr : Type 0 where
    no_expr : MaybeExpr
    one_expr : Expr → MaybeExpr

  -- the elements of an array literal, some absent
  pub data Holes : Type 0 where
    no_holes : Holes
    then_hole : MaybeExpr → Holes → Holes

  -- the names of an object literal with their values
  pub data Fields : Type 0 where
    no_fields : Fields
    then_field : List ℕ → Expr → Fields → Fields

  -- a function: its name, its formals and its body
  pub data Code : Type 0 where
    code : Option (List ℕ) → List (List ℕ) → Stmts → Code

  pub data Stmt : Type 0 where
    var : Declarators → Stmt
    function : Code → Stmt
    expr : Expr → Stmt
    empty : Stmt
    block : Stmts → Stmt
    if_else : Expr → Stmts → MaybeStmts → Stmt
    do_while : Stmts → Expr → Stmt
    while : Expr → Stmts → Stmt
    for : ForInit → MaybeExpr → MaybeExpr → Stmts → Stmt
    -- whether the target is declared, the target, the object and the body
    for_in : Bool → Expr → Expr → Stmts → Stmt
    continue : Stmt
    break : Stmt
    return : MaybeExpr → Stmt
    throw : Expr → Stmt
    try : Stmts → MaybeCatch → MaybeStmts → Stmt
    switch : Expr → Cases → Stmt

  -- a list of statements; a script is seen as that of its body
  pub data Stmts : Type 0 where
    no_stmts : Stmts
    then_stmt : Stmt → Stmts → Stmts

  pub data MaybeStmts : Type 0 where
    no_body : MaybeStmts
    one_body : Stmts → MaybeStmts

  pub data Declarators : Type 0 where
    no_declarators : Declarators
    then_declarator : List ℕ → MaybeExpr → Declarators → Declarators

  pub data ForInit : Type 0 where
    no_init : ForInit
    init_var : Declarators → ForInit
    init_expr : Expr → ForInit

  pub data MaybeCatch : Type 0 where
    no_catch : MaybeCatch
    one_catch : List ℕ → Stmts → MaybeCatch

  -- the cases of a `switch`; no expression is `default`
  pub data Cases : Type 0 where
    no_cases : Cases
    then_case : MaybeExpr → Stmts → Cases → Cases

-- lists and options as parts of a tree

abbrev pub exprs_of : List Expr → Exprs
exprs_of [] = no_exprs
exprs_of (e ∷ es) = then_expr e (exprs_of es)

abbrev pub maybe_expr : Option Expr → MaybeExpr
maybe_expr None = no_expr
maybe_expr (Some e) = one_expr e

abbrev pub holes_of : List (Option Expr) → Holes
holes_of [] = no_holes
holes_of (e ∷ es) = then_hole (maybe_expr e) (holes_of es)

abbrev pub fields_of : List (List ℕ × Expr) → Fields
fields_of [] = no_fields
fields_of (f ∷ fs) = then_field f.0 f.1 (fields_of fs)

abbrev pub stmts_of : List Stmt → Stmts
stmts_of [] = no_stmts
stmts_of (s ∷ ss) = then_stmt s (stmts_of ss)

abbrev pub maybe_stmts : Option (List Stmt) → MaybeStmts
maybe_stmts None = no_body
maybe_stmts (Some ss) = one_body (stmts_of ss)
