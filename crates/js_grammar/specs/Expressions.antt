-- The expressions (section 11, annex A.3) and function expressions (section 13).
--
-- `Exp inn level grows` is what may stand inside: whether `in` is an operator there, its level, and whether a `(`, `[`,
-- point, `++` or `--` behind it goes on with it, which it does unless its last lexeme is a postfix `++` or `--`. `Body`
-- is what stands between the braces of a function.
use Rattle.std.specs.Prelude.{◌≡◌, ℕ, ℤ, suc, Bool, true, false, List, [], ◌∷◌, Option, Some, None}
use Rattle.js_core.specs.Tree as tree
use Rattle.js_core.specs.Tree.{exprs_of, holes_of, fields_of, stmts_of, code}
use Rattle.js_core.specs.declared.token.Punct.TheVariants as p
use Rattle.js_core.specs.declared.operators.BinaryOp.{BinaryOp}
use Rattle.js_core.specs.declared.keyword.Keyword.TheVariants as kw
use Rattle.js_grammar.specs.declared.sign.Sign.{Sign}
use Rattle.js_grammar.specs.Symbols.{Symbol, sign, identifier, number, text, Lexeme, member_name, field_name}
use Rattle.js_grammar.specs.Operators.{Level, sequence, assignment, binary, construction, member, Infix, infix_of, level_of, combined, Prefix, prefix_of, prefixed, step_of, assignment_of}
use Rattle.js_grammar.specs.Phrases.{Phrase, mark, word, Name, Separated, Listed, Many, Divided}

-- the tree of one or more expressions with commas between them
abbrev pub sequence_of : List tree.Expr → tree.Expr
sequence_of (a ∷ []) = a
sequence_of es = tree.comma (exprs_of es)

module _ (Exp : Bool → Level → Bool → Phrase tree.Expr) (Body : Phrase (List tree.Stmt)) where
  -- an element of an array literal: an absent one is a comma alone
  pub data Element : List Lexeme → List Lexeme → Option tree.Expr → Type 0 where
    absent : {l : Bool} {z : List Lexeme} → Element (mark p.Comma l ∷ z) z None
    present : {g : Bool} {x y z : List Lexeme} {a : tree.Expr} → Exp true assignment g x y a → Divided p.RightBracket y z → Element x z (Some a)

  -- PropertyName : AssignmentExpression
  pub data Field : List Lexeme → List Lexeme → List ℕ × tree.Expr → Type 0 where
    field : {g l k : Bool} {s : Symbol} {w : List ℕ} {x y z : List Lexeme} {a : tree.Expr} → field_name s ≡ Some w → Exp true assignment g x y a → Divided p.RightBrace y z → Field ((s, l) ∷ mark p.Colon k ∷ x) z (w, a)

  -- Arguments, behind the (
  abbrev pub Arguments : Phrase (List tree.Expr)
  Arguments = Listed (λ g. Exp true assignment g)

  -- ( FormalParameterList ) { FunctionBody }, of a function with this name
  pub data Procedure (own : Option (List ℕ)) : List Lexeme → List Lexeme → tree.Code → Type 0 where
    procedure : {l k j : Bool} {x y z : List Lexeme} {formals : List (List ℕ)} {body : List tree.Stmt} → Listed {I = Unit {0}} (λ u. Name) x (mark p.LeftBrace k ∷ y) formals → Body y (mark p.RightBrace j ∷ z) body → Procedure own (mark p.LeftParenthesis l ∷ x) z (code own formals (stmts_of body))

  -- PrimaryExpression and FunctionExpression
  pub data Primary : List Lexeme → List Lexeme → tree.Expr → Type 0 where
    this_value : {l : Bool} {z : List Lexeme} → Primary (word kw.This l ∷ z) z tree.this
    null_value : {l : Bool} {z : List Lexeme} → Primary (word kw.Null l ∷ z) z tree.null
    true_value : {l : Bool} {z : List Lexeme} → Primary (word kw.True l ∷ z) z (tree.bool true)
    false_value : {l : Bool} {z : List Lexeme} → Primary (word kw.False l ∷ z) z (tree.bool false)
    named : {w : List ℕ} {l : Bool} {z : List Lexeme} → Primary ((identifier w, l) ∷ z) z (tree.name w)
    numeral : {n : Option ℤ} {l : Bool} {z : List Lexeme} → Primary ((number n, l) ∷ z) z (tree.num n)
    string : {t : List ℕ} {l : Bool} {z : List Lexeme} → Primary ((text t, l) ∷ z) z (tree.text t)
    array : {l k : Bool} {x z : List Lexeme} {found : List (Option tree.Expr)} → Many Element x (mark p.RightBracket k ∷ z) found → Primary (mark p.LeftBracket l ∷ x) z (tree.list (holes_of found))
    object : {l k : Bool} {x z : List Lexeme} {found : List (List ℕ × tree.Expr)} → Many Field x (mark p.RightBrace k ∷ z) found → Primary (mark p.LeftBrace l ∷ x) z (tree.literal (fields_of found))
    grouped : {g l k : Bool} {x z : List Lexeme} {a : tree.Expr} → Exp true sequence g x (mark p.RightParenthesis k ∷ z) a → Primary (mark p.LeftParenthesis l ∷ x) z a
    anonymous : {l : Bool} {x z : List Lexeme} {c : tree.Code} → Procedure None x z c → Primary (word kw.Function l ∷ x) z (tree.func c)
    function : {l k : Bool} {w : List ℕ} {x z : List Lexeme} {c : tree.Code} → Procedure (Some w) x z c → Primary (word kw.Function l ∷ (identifier w, k) ∷ x) z (tree.func c)

  -- MemberExpression, and CallExpression where the Boolean tells that there is a call
  pub data Member : Bool → List Lexeme → List Lexeme → tree.Expr → Type 0 where
    is_primary : {x z : List Lexeme} {a : tree.Expr} → Primary x z a → Member false x z a
    dotted : {c l k : Bool} {s : Symbol} {w : List ℕ} {x z : List Lexeme} {a : tree.Expr} → Member c x (mark p.Dot l ∷ (s, k) ∷ z) a → member_name s ≡ Some w → Member c x z (tree.member a w)
    indexed : {c g l k : Bool} {x y z : List Lexeme} {a b : tree.Expr} → Member c x (mark p.LeftBracket l ∷ y) a → Exp true sequence g y (mark p.RightBracket k ∷ z) b → Member c x z (tree.index a b)
    called : {c l : Bool} {x y z : List Lexeme} {a : tree.Expr} {found : List tree.Expr} → Member c x (mark p.LeftParenthesis l ∷ y) a → Arguments y z found → Member true x z (tree.call a (exprs_of found))
    constructed : {g l k : Bool} {x y z : List Lexeme} {a : tree.Expr} {found : List tree.Expr} → Exp true member g x (mark p.LeftParenthesis k ∷ y) a → Arguments y z found → Member false (word kw.New l ∷ x) z (tree.construct a (exprs_of found))

  -- NewExpression, and LeftHandSideExpression where calls may stand
  pub data LeftHandSide : Bool → List Lexeme → List Lexeme → tree.Expr → Type 0 where
    is_member : {calls : Bool} {x z : List Lexeme} {a : tree.Expr} → Member false x z a → LeftHandSide calls x z a
    is_call : {x z : List Lexeme} {a : tree.Expr} → Member true x z a → LeftHandSide true x z a
    constructed_plainly : {calls g l : Bool} {x z : List Lexeme} {a : tree.Expr} → Exp true construction g x z a → LeftHandSide calls (word kw.New l ∷ x) z (tree.construct a (exprs_of []))

  -- PostfixExpression: no line end stands before its operator
  pub data Postfix : Bool → List Lexeme → List Lexeme → tree.Expr → Type 0 where
    is_left : {x z : List Lexeme} {a : tree.Expr} → LeftHandSide true x z a → Postfix true x z a
    stepped : {s : Sign} {up : Bool} {x z : List Lexeme} {a : tree.Expr} → LeftHandSide true x ((sign s, false) ∷ z) a → step_of (Some s) ≡ Some up → Postfix false x z (tree.update up false a)

  -- UnaryExpression
  pub data Unary : Bool → List Lexeme → List Lexeme → tree.Expr → Type 0 where
    is_postfix : {g : Bool} {x z : List Lexeme} {a : tree.Expr} → Postfix g x z a → Unary g x z a
    operated : {g l : Bool} {s : Sign} {f : Prefix} {x z : List Lexeme} {a : tree.Expr} → prefix_of (Some s) ≡ Some f → Exp true (binary 11) g x z a → Unary g ((sign s, l) ∷ x) z (prefixed f a)

  -- from LogicalORExpression to MultiplicativeExpression: the operators of a level group to the left
  pub data Binary (inn : Bool) : ℕ → Bool → List Lexeme → List Lexeme → tree.Expr → Type 0 where
    is_unary : {g : Bool} {x z : List Lexeme} {a : tree.Expr} → Unary g x z a → Binary inn 11 g x z a
    tighter : {n : ℕ} {g : Bool} {x z : List Lexeme} {a : tree.Expr} → Binary inn (suc n) g x z a → Binary inn n g x z a
    combines : {g h l : Bool} {s : Sign} {f : Infix} {x y z : List Lexeme} {a b : tree.Expr} → infix_of inn (Some s) ≡ Some f → Binary inn (level_of f) g x ((sign s, l) ∷ y) a → Exp inn (binary (suc (level_of f))) h y z b → Binary inn (level_of f) h x z (combined f a b)

  -- AssignmentExpression and ConditionalExpression
  pub data Assignment (inn : Bool) : Bool → List Lexeme → List Lexeme → tree.Expr → Type 0 where
    is_binary : {g : Bool} {x z : List Lexeme} {a : tree.Expr} → Binary inn 1 g x z a → Assignment inn g x z a
    chosen : {g h j l k : Bool} {x y v z : List Lexeme} {a b c : tree.Expr} → Binary inn 1 g x (mark p.QuestionMark l ∷ y) a → Exp true assignment h y (mark p.Colon k ∷ v) b → Exp inn assignment j v z c → Assignment inn j x z (tree.conditional a b c)
    assigned : {g l : Bool} {s : Sign} {f : Option BinaryOp} {x y z : List Lexeme} {a b : tree.Expr} → LeftHandSide true x ((sign s, l) ∷ y) a → assignment_of (Some s) ≡ Some f → Exp inn assignment g y z b → Assignment inn g x z (tree.assign f a b)

  -- Expression
  pub data Sequence (inn : Bool) : Bool → List Lexeme → List Lexeme → tree.Expr → Type 0 where
    sequenced : {g : Bool} {x z : List Lexeme} {found : List tree.Expr} → Separated (Assignment inn) g x z found → Sequence inn g x z (sequence_of found)

  abbrev pub AtLevel : Bool → Level → Bool → Phrase tree.Expr
  AtLevel inn sequence = Sequence inn
  AtLevel inn assignment = Assignment inn
  AtLevel inn (binary n) = Binary inn n
  AtLevel inn construction = λ g. LeftHandSide false
  AtLevel inn member = λ g. Member false
