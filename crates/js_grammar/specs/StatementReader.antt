-- How statements are read, from the left.
use Rattle.std.specs.Prelude.{ℕ, Bool, true, false, not, ◌||◌, ◌&&◌, if◌then◌else◌, List, [], ◌∷◌, Option, Some, None}
use Rattle.js_core.specs.Tree as tree
use Rattle.js_core.specs.Tree.{maybe_expr, stmts_of, no_body, one_body, no_catch, one_catch, no_init, init_var, init_expr}
use Rattle.js_core.specs.Height.{stmt_height}
use Rattle.js_core.specs.Views.{declarators_of}
use Rattle.js_core.specs.declared.syntax.Declarator.{Declarator}
use Rattle.js_core.specs.declared.token.Punct.{Punct}
use Rattle.js_core.specs.declared.token.Punct.TheVariants as p
use Rattle.js_core.specs.declared.keyword.Keyword.TheVariants as kw
use Rattle.js_grammar.specs.declared.sign.Sign.{Sign}
use Rattle.js_grammar.specs.declared.sign.Sign.TheVariants.{Mark, Word}
use Rattle.js_grammar.specs.Symbols.{Lexeme, sign_of, sign_at}
use Rattle.js_grammar.specs.Operators.{Level, Prefix, prefix_of}
use Rattle.js_grammar.specs.Parser.{Parser, ◌>>=◌, ◌>>◌, pure, refuse, peek, skip, tail, sees, expect, eat, taken, within_limit, separated, many}
use Rattle.js_grammar.specs.ExpressionReader as reader
use Rattle.js_grammar.specs.ExpressionReader.{identifier_of}
use Rattle.js_grammar.specs.Endings.{Ending, after_expression, after_name, after_all, may_end, same_line, is_right_brace}
use Rattle.js_grammar.specs.Statements.{body_of, Clause, cases_from, has_one_default}

-- ---- ends

-- a semicolon, or a place where it may be missing
unfoldable pub ended : Ending → Parser (Unit {0})
ended e = λ i. if sees (Mark p.Semicolon) i then Some (tt, tail i) else (if may_end e i then Some (tt, i) else None)

-- an expression that was read to its end has taken each `(`, `[` and point that goes on with it
abbrev pub read_expression : Ending
read_expression = after_expression false

abbrev pub ending_by : Option tree.Expr → Ending
ending_by None = after_name
ending_by (Some a) = read_expression

-- how a list of declarators ends
abbrev pub ending_of : List Declarator → Ending
ending_of [] = after_name
ending_of (d ∷ []) = ending_by d.value
ending_of (d ∷ e ∷ rest) = ending_of (e ∷ rest)

-- whether there is one more statement before a } and the end
abbrev pub has_more : List Lexeme → Bool
has_more [] = false
has_more (t ∷ ts) = not (is_right_brace (sign_of t.0))

abbrev pub begins_clause : Option Sign → Bool
begins_clause (Some (Word kw.Case)) = true
begins_clause (Some (Word kw.Default)) = true
begins_clause s = false

-- whether there is one more statement of this clause of a `switch`
abbrev pub has_more_in_clause : List Lexeme → Bool
has_more_in_clause i = has_more i && not (begins_clause (sign_at i))

-- whether no operand may follow a `return`
abbrev pub returns : List Lexeme → Bool
returns i = sees (Mark p.Semicolon) i || may_end after_all i

module _ (limit : ℕ) where
  abbrev pub node : tree.Stmt → Parser tree.Stmt
  node s = within_limit limit (stmt_height s) s

-- No statement that is read is higher than the limit. `exp` reads what stands inside an expression, `body` what stands
-- between the braces of a function, and `statement` a statement inside another.
module _ (limit : ℕ) (exp : Bool → Level → Parser tree.Expr) (body : Parser (List tree.Stmt)) (statement : Parser tree.Stmt) where
  abbrev pub expression : Parser tree.Expr
  expression = reader.all limit exp body true

  unfoldable pub declared_by : Bool → List ℕ → Bool → Parser Declarator
  declared_by inn w is_initialised =
      if is_initialised then (do
        a ← reader.one limit exp body inn
        pure (record { name = w; value = Some a })) else pure (record { name = w; value = None })

  unfoldable pub declaration : Bool → Parser Declarator
  declaration inn = do
    w ← taken identifier_of
    is_initialised ← eat (Mark p.SimpleAssign)
    declared_by inn w is_initialised

  unfoldable pub braced : Parser (List tree.Stmt)
  braced = do
    expect (Mark p.LeftBrace)
    found ← many has_more statement
    expect (Mark p.RightBrace)
    pure found

  unfoldable pub block : Parser tree.Stmt
  block = do
    found ← braced
    node limit (tree.block (stmts_of found))

  unfoldable pub variables : Parser tree.Stmt
  variables = do
    found ← separated (declaration true)
    ended (ending_of found)
    node limit (tree.var (declarators_of found))

  unfoldable pub expressed : Parser tree.Stmt
  expressed = do
    a ← expression
    ended read_expression
    node limit (tree.expr a)

  -- ( Expression )
  unfoldable pub condition : Parser tree.Expr
  condition = do
    expect (Mark p.LeftParenthesis)
    a ← expression
    expect (Mark p.RightParenthesis)
    pure a

  unfoldable pub conditional : Parser tree.Stmt
  conditional = do
    a ← condition
    s ← statement
    is_else ← eat (Word kw.Else)
    if is_else then (do
      t ← statement
      node limit (tree.if_else a (body_of s) (one_body (body_of t)))) else node limit (tree.if_else a (body_of s) no_body)

  unfoldable pub do_while : Parser tree.Stmt
  do_while = do
    s ← statement
    expect (Word kw.While)
    a ← condition
    ended after_all
    node limit (tree.do_while (body_of s) a)

  unfoldable pub while : Parser tree.Stmt
  while = do
    a ← condition
    s ← statement
    node limit (tree.while a (body_of s))

  -- an expression, unless this sign comes
  unfoldable pub maybe_before : Punct → Parser (Option tree.Expr)
  maybe_before close = λ i. if sees (Mark close) i then Some (None, i) else (do
    a ← expression
    pure (Some a)) i

  -- a `for` from its first semicolon on
  unfoldable pub for_loop : tree.ForInit → Parser tree.Stmt
  for_loop init = do
    expect (Mark p.Semicolon)
    test ← maybe_before p.Semicolon
    expect (Mark p.Semicolon)
    next ← maybe_before p.RightParenthesis
    expect (Mark p.RightParenthesis)
    s ← statement
    node limit (tree.for init (maybe_expr test) (maybe_expr next) (body_of s))

  -- a `for` from behind its `in`
  unfoldable pub for_in : Bool → tree.Expr → Parser tree.Stmt
  for_in declared target = do
    o ← expression
    expect (Mark p.RightParenthesis)
    s ← statement
    node limit (tree.for_in declared target o (body_of s))

  -- one declarator without initialiser may stand before `in`
  abbrev pub for_in_by : Option tree.Expr → List ℕ → Parser tree.Stmt
  for_in_by None w = for_in true (tree.name w)
  for_in_by (Some a) w = refuse

  abbrev pub for_in_declared : List Declarator → Parser tree.Stmt
  for_in_declared [] = refuse
  for_in_declared (d ∷ []) = for_in_by d.value d.name
  for_in_declared (d ∷ e ∷ rest) = refuse

  unfoldable pub for_variables : Parser tree.Stmt
  for_variables = do
    found ← separated (declaration false)
    is_in ← eat (Word kw.In)
    if is_in then for_in_declared found else for_loop (init_var (declarators_of found))

  abbrev pub for_target_by : tree.Expr → Bool → Parser tree.Stmt
  for_target_by target true = for_in false target
  for_target_by target false = do
    first ← reader.assigned limit exp body false target
    a ← reader.all_from limit exp body false first
    for_loop (init_expr a)

  abbrev pub for_target : tree.Expr → Parser tree.Stmt
  for_target target = do
    is_in ← eat (Word kw.In)
    for_target_by target is_in

  abbrev pub for_expression : Option Prefix → Parser tree.Stmt
  for_expression (Some f) = do
    a ← reader.all limit exp body false
    for_loop (init_expr a)
  for_expression None = do
    target ← reader.left limit exp body true
    for_target target

  abbrev pub for_by : Option Sign → Parser tree.Stmt
  for_by (Some (Mark p.Semicolon)) = for_loop no_init
  for_by (Some (Word kw.Var)) = skip >> for_variables
  for_by s = for_expression (prefix_of s)

  unfoldable pub for_statement : Parser tree.Stmt
  for_statement = do
    expect (Mark p.LeftParenthesis)
    s ← peek
    for_by s

  unfoldable pub ended_as : tree.Stmt → Parser tree.Stmt
  ended_as s = do
    ended after_all
    pure s

  unfoldable pub returned : Parser tree.Stmt
  returned = do
    a ← expression
    ended read_expression
    node limit (tree.return (tree.one_expr a))

  -- an operand stands in the same line
  abbrev pub return_by : Bool → Parser tree.Stmt
  return_by true = ended_as (tree.return tree.no_expr)
  return_by false = returned

  unfoldable pub return : Parser tree.Stmt
  return = λ i. return_by (returns i) i

  unfoldable pub thrown : Parser tree.Stmt
  thrown = do
    a ← expression
    ended read_expression
    node limit (tree.throw a)

  unfoldable pub throw : Parser tree.Stmt
  throw = λ i. if same_line i then thrown i else None

  unfoldable pub finally : List tree.Stmt → tree.MaybeCatch → Parser tree.Stmt
  finally b c = do
    d ← braced
    node limit (tree.try (stmts_of b) c (one_body (stmts_of d)))

  unfoldable pub caught : List tree.Stmt → Parser tree.Stmt
  caught b = do
    expect (Mark p.LeftParenthesis)
    w ← taken identifier_of
    expect (Mark p.RightParenthesis)
    c ← braced
    is_finally ← eat (Word kw.Finally)
    if is_finally then finally b (one_catch w (stmts_of c)) else node limit (tree.try (stmts_of b) (one_catch w (stmts_of c)) no_body)

  unfoldable pub tried : Parser tree.Stmt
  tried = do
    b ← braced
    is_catch ← eat (Word kw.Catch)
    if is_catch then caught b else (do
      expect (Word kw.Finally)
      finally b no_catch)

  unfoldable pub case : Parser Clause
  case = do
    a ← expression
    expect (Mark p.Colon)
    found ← many has_more_in_clause statement
    pure (Some a, found)

  unfoldable pub default : Parser Clause
  default = do
    expect (Mark p.Colon)
    found ← many has_more_in_clause statement
    pure (None, found)

  abbrev pub clause_by : Option Sign → Parser Clause
  clause_by (Some (Word kw.Case)) = skip >> case
  clause_by (Some (Word kw.Default)) = skip >> default
  clause_by s = refuse

  unfoldable pub clause : Parser Clause
  clause = peek >>= clause_by

  unfoldable pub switched : tree.Expr → List Clause → Parser tree.Stmt
  switched a found = λ i. if has_one_default found then node limit (tree.switch a (cases_from found)) i else None

  unfoldable pub switch : Parser tree.Stmt
  switch = do
    a ← condition
    expect (Mark p.LeftBrace)
    found ← many has_more clause
    expect (Mark p.RightBrace)
    switched a found

  abbrev pub statement_by : Option Sign → Parser tree.Stmt
  statement_by (Some (Mark p.LeftBrace)) = block
  statement_by (Some (Mark p.Semicolon)) = skip >> pure tree.empty
  statement_by (Some (Word kw.Var)) = skip >> variables
  statement_by (Some (Word kw.If)) = skip >> conditional
  statement_by (Some (Word kw.Do)) = skip >> do_while
  statement_by (Some (Word kw.While)) = skip >> while
  statement_by (Some (Word kw.For)) = skip >> for_statement
  statement_by (Some (Word kw.Continue)) = skip >> ended_as tree.continue
  statement_by (Some (Word kw.Break)) = skip >> ended_as tree.break
  statement_by (Some (Word kw.Return)) = skip >> return
  statement_by (Some (Word kw.Throw)) = skip >> throw
  statement_by (Some (Word kw.Try)) = skip >> tried
  statement_by (Some (Word kw.Switch)) = skip >> switch
  statement_by (Some (Word kw.Function)) = refuse
  statement_by s = expressed

  unfoldable pub any_statement : Parser tree.Stmt
  any_statement = peek >>= statement_by

  -- ---- source elements

  unfoldable pub function : Parser tree.Stmt
  function = do
    w ← taken identifier_of
    c ← reader.procedure limit exp body (Some w)
    node limit (tree.function c)

  abbrev pub element_by : Option Sign → Parser tree.Stmt
  element_by (Some (Word kw.Function)) = skip >> function
  element_by s = any_statement

  unfoldable pub element : Parser tree.Stmt
  element = peek >>= element_by

  -- those before a } or the end
  unfoldable pub elements : Parser (List tree.Stmt)
  elements = many has_more element
