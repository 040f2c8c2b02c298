-- How expressions are read, from the left.
use Rattle.std.specs.Prelude.{ℕ, suc, Bool, true, false, not, if◌then◌else◌, List, [], ◌∷◌, length, Option, Some, None}
use Rattle.js_core.specs.Tree as tree
use Rattle.js_core.specs.Tree.{exprs_of, holes_of, fields_of, stmts_of, code}
use Rattle.js_core.specs.Height.{expr_height}
use Rattle.js_core.specs.declared.token.Punct.{Punct}
use Rattle.js_core.specs.declared.token.Punct.TheVariants as p
use Rattle.js_core.specs.declared.operators.BinaryOp.{BinaryOp}
use Rattle.js_core.specs.declared.keyword.Keyword.TheVariants as kw
use Rattle.js_grammar.specs.declared.sign.Sign.{Sign}
use Rattle.js_grammar.specs.declared.sign.Sign.TheVariants.{Mark, Word}
use Rattle.js_grammar.specs.Symbols.{Symbol, identifier, number, text, Lexeme, member_name, field_name, sign_at, sign_of}
use Rattle.js_grammar.specs.Operators.{Level, sequence, assignment, binary, construction, member, Infix, infix_of, level_of, combined, climbs, Prefix, prefix_of, prefixed, step_of, assignment_of, is_suffix}
use Rattle.js_grammar.specs.Parser.{Parser, ◌>>=◌, ◌>>◌, pure, refuse, peek, skip, tail, sees, sees_comma, expect, eat, taken, within_limit, repeat, added_behind_comma, separated, listed, many, divided}

-- ---- single symbols

abbrev pub identifier_of : Symbol → Option (List ℕ)
identifier_of (identifier w) = Some w
identifier_of s = None

-- what a symbol stands for that is an expression without being a sign
abbrev pub atom_of : Symbol → Option tree.Expr
atom_of (identifier w) = Some (tree.name w)
atom_of (number n) = Some (tree.num n)
atom_of (text t) = Some (tree.text t)
atom_of s = None

abbrev pub maybe_by : Option (List ℕ) → Parser (Option (List ℕ))
maybe_by None = pure None
maybe_by (Some w) = skip >> pure (Some w)

abbrev pub identifier_at : List Lexeme → Option (List ℕ)
identifier_at [] = None
identifier_at (t ∷ ts) = identifier_of t.0

-- an identifier, if one comes next
unfoldable pub maybe_identifier : Parser (Option (List ℕ))
maybe_identifier = λ i. maybe_by (identifier_at i) i

-- whether something other than this punctuator comes next
abbrev pub comes_before : Punct → List Lexeme → Bool
comes_before close i = not (sees (Mark close) i)

-- whether something comes next that goes on with a left-hand side
abbrev pub has_suffix : Bool → List Lexeme → Bool
has_suffix calls i = is_suffix calls (sign_at i)

-- whether an operator comes next that binds at least so tightly
abbrev pub has_operator : Bool → ℕ → List Lexeme → Bool
has_operator inn least i = climbs inn least (sign_at i)

-- a step that no line end stands before
abbrev pub in_line : Option Bool → Bool → Option Bool
in_line None after_line = None
in_line (Some up) true = None
in_line (Some up) false = Some up

-- the `++` or `--` that comes next in the same line
abbrev pub step_at : List Lexeme → Option Bool
step_at [] = None
step_at (t ∷ ts) = in_line (step_of (sign_of t.0)) t.1

-- ( FormalParameterList ), behind the (
unfoldable pub formal_names : Parser (List (List ℕ))
formal_names = listed (taken identifier_of)

module _ (limit : ℕ) where
  abbrev pub node : tree.Expr → Parser tree.Expr
  node a = within_limit limit (expr_height a) a

-- No expression that is read is higher than the limit. `exp` reads what may stand inside, and `body` what stands between
-- the braces of a function.
module _ (limit : ℕ) (exp : Bool → Level → Parser tree.Expr) (body : Parser (List tree.Stmt)) where
  unfoldable pub element : Parser (Option tree.Expr)
  element = λ i. if sees_comma i then Some (None, tail i) else (do
    a ← exp true assignment
    divided (Mark p.RightBracket)
    pure (Some a)) i

  unfoldable pub array : Parser tree.Expr
  array = do
    found ← many (comes_before p.RightBracket) element
    expect (Mark p.RightBracket)
    node limit (tree.list (holes_of found))

  unfoldable pub field : Parser (List ℕ × tree.Expr)
  field = do
    w ← taken field_name
    expect (Mark p.Colon)
    a ← exp true assignment
    divided (Mark p.RightBrace)
    pure (w, a)

  unfoldable pub object : Parser tree.Expr
  object = do
    found ← many (comes_before p.RightBrace) field
    expect (Mark p.RightBrace)
    node limit (tree.literal (fields_of found))

  unfoldable pub group : Parser tree.Expr
  group = do
    inner ← exp true sequence
    expect (Mark p.RightParenthesis)
    pure inner

  unfoldable pub procedure : Option (List ℕ) → Parser tree.Code
  procedure own = do
    expect (Mark p.LeftParenthesis)
    formals ← formal_names
    expect (Mark p.LeftBrace)
    found ← body
    expect (Mark p.RightBrace)
    pure (code own formals (stmts_of found))

  unfoldable pub function : Parser tree.Expr
  function = do
    own ← maybe_identifier
    c ← procedure own
    node limit (tree.func c)

  abbrev pub primary_by : Option Sign → Parser tree.Expr
  primary_by (Some (Word kw.This)) = skip >> pure tree.this
  primary_by (Some (Word kw.Null)) = skip >> pure tree.null
  primary_by (Some (Word kw.True)) = skip >> pure (tree.bool true)
  primary_by (Some (Word kw.False)) = skip >> pure (tree.bool false)
  primary_by (Some (Word kw.Function)) = skip >> function
  primary_by (Some (Mark p.LeftBracket)) = skip >> array
  primary_by (Some (Mark p.LeftBrace)) = skip >> object
  primary_by (Some (Mark p.LeftParenthesis)) = skip >> group
  primary_by s = taken atom_of

  unfoldable pub primary : Parser tree.Expr
  primary = peek >>= primary_by

  -- behind the (
  unfoldable pub arguments : Parser (List tree.Expr)
  arguments = listed (exp true assignment)

  unfoldable pub dotted : tree.Expr → Parser tree.Expr
  dotted left = do
    w ← taken member_name
    node limit (tree.member left w)

  unfoldable pub indexed : tree.Expr → Parser tree.Expr
  indexed left = do
    b ← exp true sequence
    expect (Mark p.RightBracket)
    node limit (tree.index left b)

  unfoldable pub called : tree.Expr → Parser tree.Expr
  called left = do
    found ← arguments
    node limit (tree.call left (exprs_of found))

  abbrev pub suffix_by : tree.Expr → Option Sign → Parser tree.Expr
  suffix_by left (Some (Mark p.Dot)) = skip >> dotted left
  suffix_by left (Some (Mark p.LeftBracket)) = skip >> indexed left
  suffix_by left (Some (Mark p.LeftParenthesis)) = skip >> called left
  suffix_by left s = refuse

  unfoldable pub suffix : tree.Expr → Parser tree.Expr
  suffix left = peek >>= suffix_by left

  unfoldable pub suffixes : Bool → tree.Expr → Parser tree.Expr
  suffixes calls left = λ i. repeat (has_suffix calls) suffix (length i) left i

  unfoldable pub constructed : Bool → Parser tree.Expr
  constructed calls = do
    callee ← exp true construction
    has_arguments ← eat (Mark p.LeftParenthesis)
    if has_arguments then (do
      found ← arguments
      made ← node limit (tree.construct callee (exprs_of found))
      suffixes calls made) else node limit (tree.construct callee (exprs_of []))

  abbrev pub left_by : Bool → Option Sign → Parser tree.Expr
  left_by calls (Some (Word kw.New)) = skip >> constructed calls
  left_by calls s = primary >>= suffixes calls

  -- a left-hand side, with calls or without
  unfoldable pub left : Bool → Parser tree.Expr
  left calls = peek >>= left_by calls

  abbrev pub postfix_by : tree.Expr → Option Bool → Parser tree.Expr
  postfix_by a (Some up) = skip >> node limit (tree.update up false a)
  postfix_by a None = pure a

  unfoldable pub postfix : tree.Expr → Parser tree.Expr
  postfix a = λ i. postfix_by a (step_at i) i

  unfoldable pub operated : Prefix → Parser tree.Expr
  operated f = do
    a ← exp true (binary 11)
    node limit (prefixed f a)

  abbrev pub unary_by : Option Prefix → Parser tree.Expr
  unary_by (Some f) = skip >> operated f
  unary_by None = left true >>= postfix

  unfoldable pub unary : Parser tree.Expr
  unary = peek >>= (λ s. unary_by (prefix_of s))

  abbrev pub operation_by : Bool → tree.Expr → Option Infix → Parser tree.Expr
  operation_by inn a (Some f) = do
    skip
    b ← exp inn (binary (suc (level_of f)))
    node limit (combined f a b)
  operation_by inn a None = refuse

  unfoldable pub operation : Bool → tree.Expr → Parser tree.Expr
  operation inn a = peek >>= (λ s. operation_by inn a (infix_of inn s))

  unfoldable pub operations : Bool → ℕ → tree.Expr → Parser tree.Expr
  operations inn least a = λ i. repeat (has_operator inn least) (operation inn) (length i) a i

  unfoldable pub climb : Bool → ℕ → Parser tree.Expr
  climb inn least = unary >>= operations inn least

  -- what may stand behind a binary expression
  unfoldable pub choice : Bool → tree.Expr → Parser tree.Expr
  choice inn a = do
    is_chosen ← eat (Mark p.QuestionMark)
    if is_chosen then (do
      b ← exp true assignment
      expect (Mark p.Colon)
      c ← exp inn assignment
      node limit (tree.conditional a b c)) else pure a

  -- an assignment that begins with this unary expression
  unfoldable pub rest : Bool → tree.Expr → Parser tree.Expr
  rest inn first = operations inn 1 first >>= choice inn

  abbrev pub assigned_by : Bool → tree.Expr → Option (Option BinaryOp) → Parser tree.Expr
  assigned_by inn a (Some f) = do
    skip
    b ← exp inn assignment
    node limit (tree.assign f a b)
  assigned_by inn a None = postfix a >>= rest inn

  -- an assignment that begins with this left-hand side
  unfoldable pub assigned : Bool → tree.Expr → Parser tree.Expr
  assigned inn a = peek >>= (λ s. assigned_by inn a (assignment_of s))

  abbrev pub assignment_by : Bool → Option Prefix → Parser tree.Expr
  assignment_by inn (Some f) = skip >> operated f >>= rest inn
  assignment_by inn None = left true >>= assigned inn

  unfoldable pub one : Bool → Parser tree.Expr
  one inn = peek >>= (λ s. assignment_by inn (prefix_of s))

  abbrev pub joined : List tree.Expr → Parser tree.Expr
  joined (a ∷ []) = pure a
  joined es = node limit (tree.comma (exprs_of es))

  unfoldable pub all : Bool → Parser tree.Expr
  all inn = separated (one inn) >>= joined

  -- the assignment expressions of an expression of which the first has been read
  abbrev pub more_items : Bool → tree.Expr → Parser (List tree.Expr)
  more_items inn first = λ i. repeat sees_comma (added_behind_comma (one inn)) (length i) (first ∷ []) i

  -- an expression that begins with this assignment expression
  unfoldable pub all_from : Bool → tree.Expr → Parser tree.Expr
  all_from inn first = more_items inn first >>= joined

  -- an expression that begins with a group, from behind the inside of the group on
  unfoldable pub closing : tree.Expr → Parser tree.Expr
  closing inner = do
    expect (Mark p.RightParenthesis)
    target ← suffixes true inner
    first ← assigned true target
    all_from true first

  abbrev pub at_level : Bool → Level → Parser tree.Expr
  at_level inn sequence = all inn
  at_level inn assignment = one inn
  at_level inn (binary n) = climb inn n
  at_level inn construction = left false
  at_level inn member = left false
