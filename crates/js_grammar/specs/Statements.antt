-- The statements (section 12, annex A.4) and source elements (section 14).
use Rattle.std.specs.Prelude.{◌≡◌, ℕ, Bool, true, false, not, List, [], ◌∷◌, Option, Some, None}
use Rattle.js_core.specs.Tree as tree
use Rattle.js_core.specs.Tree.{maybe_expr, stmts_of, no_body, one_body, no_catch, one_catch, no_init, init_var, init_expr, no_cases, then_case, no_stmts, then_stmt}
use Rattle.js_core.specs.Views.{declarators_of}
use Rattle.js_core.specs.declared.syntax.Declarator.{Declarator}
use Rattle.js_core.specs.declared.token.Punct.TheVariants as p
use Rattle.js_core.specs.declared.keyword.Keyword.TheVariants as kw
use Rattle.js_grammar.specs.declared.sign.Sign.TheVariants.{Word}
use Rattle.js_grammar.specs.Symbols.{identifier, Lexeme, sign_at, is_sign}
use Rattle.js_grammar.specs.Operators.{Level}
use Rattle.js_grammar.specs.Phrases.{Phrase, mark, word, Separated, Many}
use Rattle.js_grammar.specs.Expressions.{LeftHandSide, Assignment, Sequence, Procedure}
use Rattle.js_grammar.specs.Endings.{Ending, after_expression, after_name, after_all, may_end, same_line, is_excluded}

-- a semicolon, or a place where it may be missing
pub data End (e : Ending) : List Lexeme → List Lexeme → Type 0 where
  semicolon : {l : Bool} {z : List Lexeme} → End e (mark p.Semicolon l ∷ z) z
  automatic : {z : List Lexeme} → may_end e z ≡ true → End e z z

-- the statements that a statement stands for as the body of another: those of a block, or it alone
abbrev pub body_of : tree.Stmt → tree.Stmts
body_of (tree.block found) = found
body_of s = then_stmt s no_stmts

-- a clause of a `switch`: its test, which `default` has not, and its statements
abbrev pub Clause : Type 0
Clause = Option tree.Expr × List tree.Stmt

abbrev pub cases_from : List Clause → tree.Cases
cases_from [] = no_cases
cases_from (c ∷ cs) = then_case (maybe_expr c.0) (stmts_of c.1) (cases_from cs)

abbrev pub has_default : List Clause → Bool
has_default [] = false
has_default ((None, found) ∷ cs) = true
has_default ((Some a, found) ∷ cs) = has_default cs

-- no second clause is `default`
abbrev pub has_one_default : List Clause → Bool
has_one_default [] = true
has_one_default ((None, found) ∷ cs) = not (has_default cs)
has_one_default ((Some a, found) ∷ cs) = has_one_default cs

-- `Exp` is what stands inside an expression and `Body` what stands between the braces of a function, as in the grammar of
-- expressions; `Stm` is the statements that stand inside another.
module _ (Exp : Bool → Level → Bool → Phrase tree.Expr) (Body : Phrase (List tree.Stmt)) (Stm : Phrase tree.Stmt) where
  -- VariableDeclaration, and how it ends
  pub data Declaration (inn : Bool) : Ending → List Lexeme → List Lexeme → Declarator → Type 0 where
    bare : {w : List ℕ} {l : Bool} {z : List Lexeme} → Declaration inn after_name ((identifier w, l) ∷ z) z (record { name = w; value = None })
    initialised : {g l k : Bool} {w : List ℕ} {x z : List Lexeme} {a : tree.Expr} → Assignment Exp Body inn g x z a → Declaration inn (after_expression g) ((identifier w, l) ∷ mark p.SimpleAssign k ∷ x) z (record { name = w; value = Some a })

  -- { StatementList }
  pub data Braced : List Lexeme → List Lexeme → List tree.Stmt → Type 0 where
    braced : {l k : Bool} {x z : List Lexeme} {found : List tree.Stmt} → Many Stm x (mark p.RightBrace k ∷ z) found → Braced (mark p.LeftBrace l ∷ x) z found

  -- an expression that may be absent
  pub data Maybe : List Lexeme → List Lexeme → Option tree.Expr → Type 0 where
    missing : {z : List Lexeme} → Maybe z z None
    present : {g : Bool} {x z : List Lexeme} {a : tree.Expr} → Sequence Exp Body true g x z a → Maybe x z (Some a)

  -- what stands first in the header of a `for`: `in` is no operator in it
  pub data Init : List Lexeme → List Lexeme → tree.ForInit → Type 0 where
    nothing : {z : List Lexeme} → Init z z no_init
    variables : {e : Ending} {l : Bool} {x z : List Lexeme} {found : List Declarator} → Separated (Declaration false) e x z found → Init (word kw.Var l ∷ x) z (init_var (declarators_of found))
    expression : {g : Bool} {x z : List Lexeme} {a : tree.Expr} → Sequence Exp Body false g x z a → Init x z (init_expr a)

  -- CaseClause and DefaultClause
  pub data Case : List Lexeme → List Lexeme → Clause → Type 0 where
    case : {g l k : Bool} {x y z : List Lexeme} {a : tree.Expr} {found : List tree.Stmt} → Sequence Exp Body true g x (mark p.Colon k ∷ y) a → Many Stm y z found → Case (word kw.Case l ∷ x) z (Some a, found)
    default : {l k : Bool} {x z : List Lexeme} {found : List tree.Stmt} → Many Stm x z found → Case (word kw.Default l ∷ mark p.Colon k ∷ x) z (None, found)

  pub data Statement : List Lexeme → List Lexeme → tree.Stmt → Type 0 where
    block : {x z : List Lexeme} {found : List tree.Stmt} → Braced x z found → Statement x z (tree.block (stmts_of found))
    -- var VariableDeclarationList ;
    variable : {e : Ending} {l : Bool} {x y z : List Lexeme} {found : List Declarator} → Separated (Declaration true) e x y found → End e y z → Statement (word kw.Var l ∷ x) z (tree.var (declarators_of found))
    empty : {l : Bool} {z : List Lexeme} → Statement (mark p.Semicolon l ∷ z) z tree.empty
    -- Expression ; which begins neither with { nor with `function`
    expressed : {g : Bool} {x y z : List Lexeme} {a : tree.Expr} → is_excluded (sign_at x) ≡ false → Sequence Exp Body true g x y a → End (after_expression g) y z → Statement x z (tree.expr a)
    -- if ( Expression ) Statement, with no `else` behind it
    conditional : {g l k j : Bool} {x y z : List Lexeme} {a : tree.Expr} {s : tree.Stmt} → Sequence Exp Body true g x (mark p.RightParenthesis j ∷ y) a → Stm y z s → is_sign (Word kw.Else) (sign_at z) ≡ false → Statement (word kw.If l ∷ mark p.LeftParenthesis k ∷ x) z (tree.if_else a (body_of s) no_body)
    -- if ( Expression ) Statement else Statement
    alternative : {g l k j i : Bool} {x y v z : List Lexeme} {a : tree.Expr} {s t : tree.Stmt} → Sequence Exp Body true g x (mark p.RightParenthesis j ∷ y) a → Stm y (word kw.Else i ∷ v) s → Stm v z t → Statement (word kw.If l ∷ mark p.LeftParenthesis k ∷ x) z (tree.if_else a (body_of s) (one_body (body_of t)))
    -- do Statement while ( Expression ) ;
    do_while : {g l k j i : Bool} {x y v z : List Lexeme} {a : tree.Expr} {s : tree.Stmt} → Stm x (word kw.While k ∷ mark p.LeftParenthesis j ∷ y) s → Sequence Exp Body true g y (mark p.RightParenthesis i ∷ v) a → End after_all v z → Statement (word kw.Do l ∷ x) z (tree.do_while (body_of s) a)
    -- while ( Expression ) Statement
    while : {g l k j : Bool} {x y z : List Lexeme} {a : tree.Expr} {s : tree.Stmt} → Sequence Exp Body true g x (mark p.RightParenthesis j ∷ y) a → Stm y z s → Statement (word kw.While l ∷ mark p.LeftParenthesis k ∷ x) z (tree.while a (body_of s))
    -- for ( Init ; Expression ; Expression ) Statement
    for_loop : {l k j i h : Bool} {x y v u z : List Lexeme} {init : tree.ForInit} {test next : Option tree.Expr} {s : tree.Stmt} → Init x (mark p.Semicolon j ∷ y) init → Maybe y (mark p.Semicolon i ∷ v) test → Maybe v (mark p.RightParenthesis h ∷ u) next → Stm u z s → Statement (word kw.For l ∷ mark p.LeftParenthesis k ∷ x) z (tree.for init (maybe_expr test) (maybe_expr next) (body_of s))
    -- for ( LeftHandSideExpression in Expression ) Statement
    for_in : {g l k j i : Bool} {x y v z : List Lexeme} {a o : tree.Expr} {s : tree.Stmt} → LeftHandSide Exp Body true x (word kw.In j ∷ y) a → Sequence Exp Body true g y (mark p.RightParenthesis i ∷ v) o → Stm v z s → Statement (word kw.For l ∷ mark p.LeftParenthesis k ∷ x) z (tree.for_in false a o (body_of s))
    -- for ( var Identifier in Expression ) Statement
    for_in_variable : {g l k j i h m : Bool} {w : List ℕ} {y v z : List Lexeme} {o : tree.Expr} {s : tree.Stmt} → Sequence Exp Body true g y (mark p.RightParenthesis m ∷ v) o → Stm v z s → Statement (word kw.For l ∷ mark p.LeftParenthesis k ∷ word kw.Var j ∷ (identifier w, i) ∷ word kw.In h ∷ y) z (tree.for_in true (tree.name w) o (body_of s))
    continue : {l : Bool} {x z : List Lexeme} → End after_all x z → Statement (word kw.Continue l ∷ x) z tree.continue
    break : {l : Bool} {x z : List Lexeme} → End after_all x z → Statement (word kw.Break l ∷ x) z tree.break
    return : {l : Bool} {x z : List Lexeme} → End after_all x z → Statement (word kw.Return l ∷ x) z (tree.return tree.no_expr)
    -- return Expression ; with the operand in the same line
    return_value : {g l : Bool} {x y z : List Lexeme} {a : tree.Expr} → same_line x ≡ true → Sequence Exp Body true g x y a → End (after_expression g) y z → Statement (word kw.Return l ∷ x) z (tree.return (tree.one_expr a))
    -- throw Expression ; with the operand in the same line
    throw : {g l : Bool} {x y z : List Lexeme} {a : tree.Expr} → same_line x ≡ true → Sequence Exp Body true g x y a → End (after_expression g) y z → Statement (word kw.Throw l ∷ x) z (tree.throw a)
    -- try Block catch ( Identifier ) Block, with no `finally` behind it, which begins no statement
    try_catch : {l k j i h : Bool} {w : List ℕ} {x y z : List Lexeme} {b c : List tree.Stmt} → Braced x (word kw.Catch k ∷ mark p.LeftParenthesis j ∷ (identifier w, i) ∷ mark p.RightParenthesis h ∷ y) b → Braced y z c → is_sign (Word kw.Finally) (sign_at z) ≡ false → Statement (word kw.Try l ∷ x) z (tree.try (stmts_of b) (one_catch w (stmts_of c)) no_body)
    -- try Block finally Block
    try_finally : {l k : Bool} {x y z : List Lexeme} {b d : List tree.Stmt} → Braced x (word kw.Finally k ∷ y) b → Braced y z d → Statement (word kw.Try l ∷ x) z (tree.try (stmts_of b) no_catch (one_body (stmts_of d)))
    -- try Block catch ( Identifier ) Block finally Block
    try_both : {l k j i h m : Bool} {w : List ℕ} {x y v z : List Lexeme} {b c d : List tree.Stmt} → Braced x (word kw.Catch k ∷ mark p.LeftParenthesis j ∷ (identifier w, i) ∷ mark p.RightParenthesis h ∷ y) b → Braced y (word kw.Finally m ∷ v) c → Braced v z d → Statement (word kw.Try l ∷ x) z (tree.try (stmts_of b) (one_catch w (stmts_of c)) (one_body (stmts_of d)))
    -- switch ( Expression ) { clauses }
    switch : {g l k j i h : Bool} {x y z : List Lexeme} {a : tree.Expr} {found : List Clause} → Sequence Exp Body true g x (mark p.RightParenthesis j ∷ mark p.LeftBrace i ∷ y) a → Many Case y (mark p.RightBrace h ∷ z) found → has_one_default found ≡ true → Statement (word kw.Switch l ∷ mark p.LeftParenthesis k ∷ x) z (tree.switch a (cases_from found))

  -- a statement, or a function declaration, which stands at the top of a script or a function's body alone
  pub data Element : List Lexeme → List Lexeme → tree.Stmt → Type 0 where
    is_statement : {x z : List Lexeme} {s : tree.Stmt} → Statement x z s → Element x z s
    declaration : {l k : Bool} {w : List ℕ} {x z : List Lexeme} {c : tree.Code} → Procedure Exp Body (Some w) x z c → Element (word kw.Function l ∷ (identifier w, k) ∷ x) z (tree.function c)

  abbrev pub Elements : Phrase (List tree.Stmt)
  Elements = Many Element
