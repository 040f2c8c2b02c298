-- In the lexemes of a tree that keeps the rules on trees an operand stands behind each `++` or `--` that stands behind a `}`: what such
-- a sign stands behind as a postfix ends with no `}`, as object literals and functions are in parentheses there.
use Rattle.std.proofs.Common.{◌≡◌, ◌∙◌, ℕ, Bool, true, false, List, [], ◌∷◌, ◌++◌, Option, Some, None, refl, ap, sym, subst, append_assoc}
use Rattle.std.specs.Prelude.{not, ◌&&◌, ◌||◌, if◌then◌else◌, is_some}
use Rattle.std.proofs.lemmas.List.{append-nil}
use Rattle.std.proofs.lemmas.Bool.{and_from, and_parts}
use Rattle.js_core.specs.Spelling.{keyword_of, keyword_text, is_unused_word}
use Rattle.js_core.specs.Tree as tree
use Rattle.js_core.specs.Tree.{name, num, text, bool, null, this, list, literal, func, member, index, call, construct, unary, update, binary, logical_and, logical_or, conditional, assign, comma, no_exprs, then_expr, no_expr, one_expr, no_holes, then_hole, no_fields, then_field, code, var, function, expr, empty, block, if_else, do_while, while, for, for_in, continue, break, return, throw, try, switch, no_stmts, then_stmt, no_body, one_body, no_declarators, then_declarator, no_init, init_var, init_expr, no_catch, one_catch, no_cases, then_case}
use Rattle.js_core.specs.declared.operators.UnaryOp.{UnaryOp}
use Rattle.js_core.specs.declared.operators.BinaryOp.{BinaryOp}
use Rattle.js_core.specs.declared.operators.UnaryOp.TheVariants as op1
use Rattle.js_core.specs.declared.operators.BinaryOp.TheVariants as op2
use Rattle.js_core.specs.declared.token.Punct.TheVariants as punct
use Rattle.js_core.specs.declared.keyword.Keyword.{Keyword as Word}
use Rattle.js_core.specs.declared.keyword.Keyword.TheVariants as keyword
use Rattle.js_grammar.specs.LineEnds.{is_closing, begins_operand, operand_follows, may_be_postfix}
use Rattle.js_grammar.specs.Operators.{step_of}
use Rattle.js_grammar.specs.Symbols.{Symbol, identifier, unused, symbol_of, word_symbol, sign_of, lexemes}
use Rattle.js_grammar.specs.Syntax.{IsExpr, AreExprs, IsMaybeExpr, AreHoles, AreFields, IsCode, IsStmt, AreStmts, IsMaybeBody, AreDeclarators, IsInit, IsMaybeCatch, AreCases, IsSyntax}
use Rattle.js_print.specs.declared.lexeme.Lexeme.{Lexeme}
use Rattle.js_print.specs.declared.lexeme.Lexeme.TheVariants.{Keyword, Name, Number, Text, Punct}
use Rattle.js_print.specs.declared.place.Place.{Place}
use Rattle.js_print.specs.declared.place.Place.TheVariants.{Operand, Base, Constructor, Part, Whole, Statement}
use Rattle.js_print.specs.Lexemes.{boolean_lexeme, updated, separator, maybe_name, more_names, names, maybe_var, expr_lexemes, parts_lexemes, more_parts_lexemes, hole_lexemes, holes_lexemes, fields_lexemes, more_fields_lexemes, code_lexemes, stmt_lexemes, stmts_lexemes, maybe_whole_lexemes, maybe_body_lexemes, maybe_catch_lexemes, initialiser_lexemes, declarators_lexemes, more_declarators_lexemes, init_lexemes, case_label_lexemes, cases_lexemes}
use Rattle.js_print.specs.Operators.{unary_lexeme, update_punct, binary_lexeme, assign_punct}
use Rattle.js_print.specs.Places.{is_simple, is_number, is_bare, placed, parenthesised, braced}
use Rattle.js_print.specs.ReadBack.{kind_of}
use Rattle.js_print.proofs.PrintedScripts.{plain_tokens}
use Rattle.js_print.proofs.PrintedTrees.{identified}

abbrev pub is_brace : Lexeme → Bool
is_brace (Punct punct.RightBrace) = true
is_brace x = false

abbrev is_step : Lexeme → Bool
is_step (Punct punct.PlusPlus) = true
is_step (Punct punct.MinusMinus) = true
is_step x = false

-- an operand may begin with the first of them
abbrev begins : List Lexeme → Bool
begins [] = false
begins (x ∷ xs) = begins_operand (symbol_of (kind_of x))

-- behind a `}` or not, an operand stands behind each `++` or `--` that stands behind a `}`
abbrev pub steady : Bool → List Lexeme → Bool
steady b [] = true
steady b (x ∷ xs) = (not (b && is_step x) || begins xs) && steady (is_brace x) xs

-- whether they end with `}`, or what stands before them does, where they are none
abbrev ends : Bool → List Lexeme → Bool
ends b [] = b
ends b (x ∷ xs) = ends (is_brace x) xs

ends_both : (xs ys : List Lexeme) (b : Bool) → ends b (xs ++ ys) ≡ ends (ends b xs) ys
ends_both [] ys b = refl
ends_both (x ∷ xs) ys b = ends_both xs ys (is_brace x)

-- before lexemes that are steady behind them, these are steady with them
record Steady (xs : List Lexeme) : Type 0 where
  run : (b : Bool) (rest : List Lexeme) → steady (ends b xs) rest ≡ true → steady b (xs ++ rest) ≡ true

nothing : Steady []
nothing = record { run = λ b rest h. h }

passes : (b s o : Bool) → s ≡ false → (not (b && s) || o) ≡ true
passes true true o e = absurd (cc)
passes true false o e = refl
passes false s o e = refl

behind : {xs : List Lexeme} (x : Lexeme) → is_step x ≡ false → Steady xs → Steady (x ∷ xs)
behind {xs} x e c = record { run = λ b rest h. and_from _ _ (passes b (is_step x) (begins (xs ++ rest)) e) (c.run (is_brace x) rest h) }

one : (x : Lexeme) → is_step x ≡ false → Steady (x ∷ [])
one x e = behind x e nothing

both : {xs ys : List Lexeme} → Steady xs → Steady ys → Steady (xs ++ ys)
both {xs} {ys} c d = record {
  run = λ b rest h.
      ap (steady b) (append_assoc xs ys rest)
      ∙ c.run b (ys ++ rest) (d.run (ends b xs) rest (subst (λ e. steady e rest ≡ true) (ends_both xs ys b) h));
}

in_parentheses : {xs : List Lexeme} → Steady xs → Steady (parenthesised xs)
in_parentheses c = behind (Punct punct.LeftParenthesis) refl (both c (one (Punct punct.RightParenthesis) refl))

in_braces : {xs : List Lexeme} → Steady xs → Steady (braced xs)
in_braces c = behind (Punct punct.LeftBrace) refl (both c (one (Punct punct.RightBrace) refl))

in_place : (place : Place) (e : tree.Expr) (xs : List Lexeme) → Steady xs → Steady (placed place e xs)
in_place place e xs c = by_test (is_bare place e)
  where
    by_test : (b : Bool) → Steady (if b then xs else parenthesised xs)
    by_test true = c
    by_test false = in_parentheses c

-- ---- operands

begun : (xs ys : List Lexeme) → begins xs ≡ true → begins (xs ++ ys) ≡ true
begun [] ys h = absurd (cc)
begun (x ∷ xs) ys h = h

placed_begins : (b : Bool) (xs : List Lexeme) → (b ≡ true → begins xs ≡ true) → begins (if b then xs else parenthesised xs) ≡ true
placed_begins true xs f = f refl
placed_begins false xs f = refl

simple_begins : (e : tree.Expr) → is_simple e ≡ true → IsExpr e → begins (expr_lexemes e) ≡ true
simple_begins (name x) h i = ap begins_operand (identified x i).0
simple_begins (num n) h i = refl
simple_begins (text x) h i = refl
simple_begins (bool true) h i = refl
simple_begins (bool false) h i = refl
simple_begins null h i = refl
simple_begins this h i = refl
simple_begins (list es) h i = refl
simple_begins (member e x) h i =
    begun (placed Base e (expr_lexemes e)) (Punct punct.Dot ∷ Name x ∷ [])
    (placed_begins (is_simple e && not (is_number e)) (expr_lexemes e) (λ b. simple_begins e (and_parts _ _ b).0 i.0))
simple_begins (index a b) h i =
    begun (placed Base a (expr_lexemes a)) (Punct punct.LeftBracket ∷ (placed Part b (expr_lexemes b) ++ Punct punct.RightBracket ∷ []))
    (placed_begins (is_simple a && not (is_number a)) (expr_lexemes a) (λ c. simple_begins a (and_parts _ _ c).0 i.0))
simple_begins (call f es) h i =
    begun (placed Operand f (expr_lexemes f)) (parenthesised (parts_lexemes es)) (placed_begins (is_simple f) (expr_lexemes f) (λ b. simple_begins f b i.0))
simple_begins e h i = absurd (cc)

operand_begins : (a : tree.Expr) → IsExpr a → begins (placed Operand a (expr_lexemes a)) ≡ true
operand_begins a i = placed_begins (is_simple a) (expr_lexemes a) (λ b. simple_begins a b i)

parenthesised_ends : (xs : List Lexeme) (b : Bool) → ends b (parenthesised xs) ≡ false
parenthesised_ends xs b = ends_both xs (Punct punct.RightParenthesis ∷ []) false

simple_ends : (e : tree.Expr) → is_simple e ≡ true → (b : Bool) → ends b (expr_lexemes e) ≡ false
simple_ends (name x) h b = refl
simple_ends (num n) h b = refl
simple_ends (text x) h b = refl
simple_ends (bool true) h b = refl
simple_ends (bool false) h b = refl
simple_ends null h b = refl
simple_ends this h b = refl
simple_ends (list es) h b = ends_both (holes_lexemes es) (Punct punct.RightBracket ∷ []) false
simple_ends (member e x) h b = ends_both (placed Base e (expr_lexemes e)) (Punct punct.Dot ∷ Name x ∷ []) b
simple_ends (index a c) h b =
    let part = placed Part c (expr_lexemes c) in
    ends_both (placed Base a (expr_lexemes a)) (Punct punct.LeftBracket ∷ (part ++ Punct punct.RightBracket ∷ [])) b
    ∙ ends_both part (Punct punct.RightBracket ∷ []) false
simple_ends (call f es) h b = ends_both (placed Operand f (expr_lexemes f)) (parenthesised (parts_lexemes es)) b ∙ parenthesised_ends (parts_lexemes es) false
simple_ends e h b = absurd (cc)

operand_ends : (a : tree.Expr) (b : Bool) → ends b (placed Operand a (expr_lexemes a)) ≡ false
operand_ends a b = by_test (is_simple a) (λ s. simple_ends a s b)
  where
    by_test : (s : Bool) → (s ≡ true → ends b (expr_lexemes a) ≡ false) → ends b (if s then expr_lexemes a else parenthesised (expr_lexemes a)) ≡ false
    by_test true f = f refl
    by_test false f = parenthesised_ends (expr_lexemes a) b

-- ---- `++` and `--`

or_true : (b : Bool) → (b || true) ≡ true
or_true true = refl
or_true false = refl

before_operand : {xs : List Lexeme} (x : Lexeme) → begins xs ≡ true → Steady xs → Steady (x ∷ xs)
before_operand {xs} x e c = record {
  run = λ b rest h.
      and_from _ _ (ap (λ o. not (b && is_step x) || o) (begun xs rest e) ∙ or_true (not (b && is_step x))) (c.run (is_brace x) rest h);
}

behind_operand : {xs : List Lexeme} (x : Lexeme) → ((b : Bool) → ends b xs ≡ false) → Steady xs → Steady (xs ++ x ∷ [])
behind_operand {xs} x e c = record {
  run = λ b rest h.
      ap (steady b) (append_assoc xs (x ∷ []) rest)
      ∙ c.run b (x ∷ rest) (subst (λ s. steady s (x ∷ rest) ≡ true) (sym (e b)) (subst (λ s. steady s rest ≡ true) (ends_both xs (x ∷ []) b) h));
}

updated_steady : (up prefix : Bool) (a : tree.Expr) → IsExpr a → Steady (placed Operand a (expr_lexemes a)) → Steady (updated up prefix (placed Operand a (expr_lexemes a)))
updated_steady up true a i c = before_operand (Punct (update_punct up)) (operand_begins a i) c
updated_steady up false a i c = behind_operand (Punct (update_punct up)) (operand_ends a) c

unary_is_no_step : (op : UnaryOp) → is_step (unary_lexeme op) ≡ false
unary_is_no_step op1.Delete = refl
unary_is_no_step op = refl

binary_is_no_step : (op : BinaryOp) → is_step (binary_lexeme op) ≡ false
binary_is_no_step op2.Less = refl
binary_is_no_step op = refl

assign_is_no_step : (op : Option BinaryOp) → is_step (Punct (assign_punct op)) ≡ false
assign_is_no_step None = refl
assign_is_no_step (Some op2.Less) = refl
assign_is_no_step (Some op) = refl

-- ---- names and commas

boolean_steady : (b : Bool) → Steady (boolean_lexeme b ∷ [])
boolean_steady true = one _ refl
boolean_steady false = one _ refl

maybe_name_steady : (x : Option (List ℕ)) → Steady (maybe_name x)
maybe_name_steady None = nothing
maybe_name_steady (Some x) = one _ refl

more_names_steady : (xs : List (List ℕ)) → Steady (more_names xs)
more_names_steady [] = nothing
more_names_steady (x ∷ xs) = behind _ refl (behind _ refl (more_names_steady xs))

names_steady : (xs : List (List ℕ)) → Steady (names xs)
names_steady [] = nothing
names_steady (x ∷ xs) = behind _ refl (more_names_steady xs)

maybe_var_steady : (b : Bool) → Steady (maybe_var b)
maybe_var_steady true = one _ refl
maybe_var_steady false = nothing

separator_steady : (e : tree.MaybeExpr) (es : tree.Holes) → Steady (separator e es)
separator_steady no_expr es = one _ refl
separator_steady (one_expr e) no_holes = nothing
separator_steady (one_expr e) (then_hole f es) = one _ refl

-- ---- all trees

mutual
  expr_steady : (e : tree.Expr) → IsExpr e → Steady (expr_lexemes e)
  expr_steady (name x) i = one _ refl
  expr_steady (num n) i = one _ refl
  expr_steady (text x) i = one _ refl
  expr_steady (bool b) i = boolean_steady b
  expr_steady null i = one _ refl
  expr_steady this i = one _ refl
  expr_steady (list es) i = behind _ refl (both (holes_steady es i) (one _ refl))
  expr_steady (literal fs) i = in_braces (fields_steady fs i)
  expr_steady (func c) i = code_steady c i
  expr_steady (member e x) i = both (in_place Base e _ (expr_steady e i.0)) (behind _ refl (one _ refl))
  expr_steady (index a b) i = both (in_place Base a _ (expr_steady a i.0)) (behind _ refl (both (in_place Part b _ (expr_steady b i.1)) (one _ refl)))
  expr_steady (call f es) i = both (in_place Operand f _ (expr_steady f i.0)) (in_parentheses (parts_steady es i.1))
  expr_steady (construct f es) i = behind _ refl (both (in_place Constructor f _ (expr_steady f i.0)) (in_parentheses (parts_steady es i.1)))
  expr_steady (unary op a) i = behind _ (unary_is_no_step op) (in_place Operand a _ (expr_steady a i))
  expr_steady (update up prefix a) i = updated_steady up prefix a i (in_place Operand a _ (expr_steady a i))
  expr_steady (binary op a b) i = both (in_place Operand a _ (expr_steady a i.0)) (behind _ (binary_is_no_step op) (in_place Operand b _ (expr_steady b i.1)))
  expr_steady (logical_and a b) i = both (in_place Operand a _ (expr_steady a i.0)) (behind _ refl (in_place Operand b _ (expr_steady b i.1)))
  expr_steady (logical_or a b) i = both (in_place Operand a _ (expr_steady a i.0)) (behind _ refl (in_place Operand b _ (expr_steady b i.1)))
  expr_steady (conditional a b c) i =
      both (in_place Operand a _ (expr_steady a i.0))
      (behind _ refl (both (in_place Operand b _ (expr_steady b i.1)) (behind _ refl (in_place Operand c _ (expr_steady c i.2)))))
  expr_steady (assign op a b) i = both (in_place Operand a _ (expr_steady a i.1)) (behind _ (assign_is_no_step op) (in_place Part b _ (expr_steady b i.2)))
  expr_steady (comma es) i = parts_steady es i.1

  parts_steady : (es : tree.Exprs) → AreExprs es → Steady (parts_lexemes es)
  parts_steady no_exprs i = nothing
  parts_steady (then_expr e es) i = both (in_place Part e _ (expr_steady e i.0)) (more_parts_steady es i.1)

  more_parts_steady : (es : tree.Exprs) → AreExprs es → Steady (more_parts_lexemes es)
  more_parts_steady no_exprs i = nothing
  more_parts_steady (then_expr e es) i = behind _ refl (both (in_place Part e _ (expr_steady e i.0)) (more_parts_steady es i.1))

  hole_steady : (e : tree.MaybeExpr) → IsMaybeExpr e → Steady (hole_lexemes e)
  hole_steady no_expr i = nothing
  hole_steady (one_expr e) i = in_place Part e _ (expr_steady e i)

  holes_steady : (es : tree.Holes) → AreHoles es → Steady (holes_lexemes es)
  holes_steady no_holes i = nothing
  holes_steady (then_hole e es) i = both (hole_steady e i.0) (both (separator_steady e es) (holes_steady es i.1))

  fields_steady : (fs : tree.Fields) → AreFields fs → Steady (fields_lexemes fs)
  fields_steady no_fields i = nothing
  fields_steady (then_field x e fs) i = behind _ refl (behind _ refl (both (in_place Part e _ (expr_steady e i.1)) (more_fields_steady fs i.2)))

  more_fields_steady : (fs : tree.Fields) → AreFields fs → Steady (more_fields_lexemes fs)
  more_fields_steady no_fields i = nothing
  more_fields_steady (then_field x e fs) i =
      behind _ refl (behind _ refl (behind _ refl (both (in_place Part e _ (expr_steady e i.1)) (more_fields_steady fs i.2))))

  code_steady : (c : tree.Code) → IsCode c → Steady (code_lexemes c)
  code_steady (code x formals body) i =
      behind _ refl (both (maybe_name_steady x) (both (in_parentheses (names_steady formals)) (in_braces (stmts_steady true body i.2))))

  stmt_steady : (top : Bool) (s : tree.Stmt) → IsStmt top s → Steady (stmt_lexemes s)
  stmt_steady top (var ds) i = behind _ refl (both (declarators_steady ds i.1) (one _ refl))
  stmt_steady top (function c) i = code_steady c i.1
  stmt_steady top (expr e) i = both (in_place Statement e _ (expr_steady e i)) (one _ refl)
  stmt_steady top empty i = one _ refl
  stmt_steady top (block ss) i = in_braces (stmts_steady false ss i)
  stmt_steady top (if_else e a b) i =
      behind _ refl (both (in_parentheses (in_place Whole e _ (expr_steady e i.0)))
      (both (in_braces (stmts_steady false a i.1)) (maybe_body_steady keyword.Else b i.2)))
  stmt_steady top (do_while body e) i =
      behind _ refl (both (in_braces (stmts_steady false body i.0))
      (behind _ refl (both (in_parentheses (in_place Whole e _ (expr_steady e i.1))) (one _ refl))))
  stmt_steady top (while e body) i =
      behind _ refl (both (in_parentheses (in_place Whole e _ (expr_steady e i.0))) (in_braces (stmts_steady false body i.1)))
  stmt_steady top (for f t s body) i =
      behind _ refl (both
      (in_parentheses (both (init_steady f i.0) (behind _ refl (both (maybe_whole_steady t i.1) (behind _ refl (maybe_whole_steady s i.2))))))
      (in_braces (stmts_steady false body i.3)))
  stmt_steady top (for_in declared t e body) i =
      behind _ refl (both
      (in_parentheses (both (maybe_var_steady declared) (both (in_place Operand t _ (expr_steady t i.1)) (behind _ refl (in_place Whole e _ (expr_steady e i.2))))))
      (in_braces (stmts_steady false body i.3)))
  stmt_steady top continue i = behind _ refl (one _ refl)
  stmt_steady top break i = behind _ refl (one _ refl)
  stmt_steady top (return e) i = behind _ refl (both (maybe_whole_steady e i) (one _ refl))
  stmt_steady top (throw e) i = behind _ refl (both (in_place Whole e _ (expr_steady e i)) (one _ refl))
  stmt_steady top (try b c l) i =
      behind _ refl (both (in_braces (stmts_steady false b i.1)) (both (maybe_catch_steady c i.2) (maybe_body_steady keyword.Finally l i.3)))
  stmt_steady top (switch e cs) i =
      behind _ refl (both (in_parentheses (in_place Whole e _ (expr_steady e i.0))) (in_braces (cases_steady cs i.2)))

  stmts_steady : (top : Bool) (ss : tree.Stmts) → AreStmts top ss → Steady (stmts_lexemes ss)
  stmts_steady top no_stmts i = nothing
  stmts_steady top (then_stmt s ss) i = both (stmt_steady top s i.0) (stmts_steady top ss i.1)

  maybe_whole_steady : (e : tree.MaybeExpr) → IsMaybeExpr e → Steady (maybe_whole_lexemes e)
  maybe_whole_steady no_expr i = nothing
  maybe_whole_steady (one_expr e) i = in_place Whole e _ (expr_steady e i)

  maybe_body_steady : (k : Word) (b : tree.MaybeStmts) → IsMaybeBody b → Steady (maybe_body_lexemes k b)
  maybe_body_steady k no_body i = nothing
  maybe_body_steady k (one_body ss) i = behind _ refl (in_braces (stmts_steady false ss i))

  maybe_catch_steady : (c : tree.MaybeCatch) → IsMaybeCatch c → Steady (maybe_catch_lexemes c)
  maybe_catch_steady no_catch i = nothing
  maybe_catch_steady (one_catch x ss) i = behind _ refl (both (in_parentheses (one _ refl)) (in_braces (stmts_steady false ss i.1)))

  initialiser_steady : (e : tree.MaybeExpr) → IsMaybeExpr e → Steady (initialiser_lexemes e)
  initialiser_steady no_expr i = nothing
  initialiser_steady (one_expr e) i = behind _ refl (in_place Part e _ (expr_steady e i))

  declarators_steady : (ds : tree.Declarators) → AreDeclarators ds → Steady (declarators_lexemes ds)
  declarators_steady no_declarators i = nothing
  declarators_steady (then_declarator x e ds) i = behind _ refl (both (initialiser_steady e i.1) (more_declarators_steady ds i.2))

  more_declarators_steady : (ds : tree.Declarators) → AreDeclarators ds → Steady (more_declarators_lexemes ds)
  more_declarators_steady no_declarators i = nothing
  more_declarators_steady (then_declarator x e ds) i = behind _ refl (behind _ refl (both (initialiser_steady e i.1) (more_declarators_steady ds i.2)))

  init_steady : (f : tree.ForInit) → IsInit f → Steady (init_lexemes f)
  init_steady no_init i = nothing
  init_steady (init_var ds) i = behind _ refl (declarators_steady ds i.1)
  init_steady (init_expr e) i = in_place Whole e _ (expr_steady e i)

  case_label_steady : (e : tree.MaybeExpr) → IsMaybeExpr e → Steady (case_label_lexemes e)
  case_label_steady no_expr i = behind _ refl (one _ refl)
  case_label_steady (one_expr e) i = behind _ refl (both (in_place Part e _ (expr_steady e i)) (one _ refl))

  cases_steady : (cs : tree.Cases) → AreCases cs → Steady (cases_lexemes cs)
  cases_steady no_cases i = nothing
  cases_steady (then_case e ss cs) i = both (case_label_steady e i.0) (both (stmts_steady false ss i.1) (cases_steady cs i.2))

pub script_is_steady : (script : tree.Stmts) → IsSyntax script → steady false (stmts_lexemes script) ≡ true
script_is_steady script is = let xs = stmts_lexemes script in ap (steady false) (sym (append-nil xs)) ∙ (stmts_steady true script is).run false [] refl

-- ---- symbols

-- neither `}` nor `++` or `--`
abbrev IsPlain : Symbol → Type 0
IsPlain s = (is_closing s ≡ false) × (is_some (step_of (sign_of s)) ≡ false)

word_is_plain : (w : List ℕ) (k : Option Word) → IsPlain (word_symbol w k)
word_is_plain w (Some k) = (refl, refl)
word_is_plain w None = by (is_unused_word w)
  where
    by : (b : Bool) → IsPlain (if b then unused w else identifier w)
    by true = (refl, refl)
    by false = (refl, refl)

closes : (x : Lexeme) → is_closing (symbol_of (kind_of x)) ≡ is_brace x
closes (Keyword k) = (word_is_plain (keyword_text k) (keyword_of (keyword_text k))).0
closes (Name w) = (word_is_plain w (keyword_of w)).0
closes (Number n) = refl
closes (Text t) = refl
closes (Punct punct.RightBrace) = refl
closes (Punct p) = refl

steps : (x : Lexeme) → is_some (step_of (sign_of (symbol_of (kind_of x)))) ≡ is_step x
steps (Keyword k) = (word_is_plain (keyword_text k) (keyword_of (keyword_text k))).1
steps (Name w) = (word_is_plain w (keyword_of w)).1
steps (Number n) = refl
steps (Text t) = refl
steps (Punct punct.PlusPlus) = refl
steps (Punct punct.MinusMinus) = refl
steps (Punct p) = refl

and_true : (b : Bool) → (b && true) ≡ b
and_true true = refl
and_true false = refl

follows : (xs : List Lexeme) → operand_follows (lexemes (plain_tokens xs)) ≡ begins xs
follows [] = refl
follows (x ∷ xs) = and_true (begins_operand (symbol_of (kind_of x)))

not_all : (c s o : Bool) → (not (c && s) || o) ≡ true → (c && (s && not o)) ≡ false
not_all true true true e = refl
not_all true true false e = absurd (cc)
not_all true false o e = refl
not_all false s o e = refl

pub steady_behind : (behind x : Lexeme) (xs : List Lexeme) → steady (is_brace behind) (x ∷ xs) ≡ true → steady (is_brace x) xs ≡ true
steady_behind behind x xs h = (and_parts (not (is_brace behind && is_step x) || begins xs) _ h).1

pub never_postfix : (behind x : Lexeme) (xs : List Lexeme) → steady (is_brace behind) (x ∷ xs) ≡ true → may_be_postfix (symbol_of (kind_of behind)) (symbol_of (kind_of x)) (lexemes (plain_tokens xs)) ≡ false
never_postfix behind x xs h = rw (closes behind, steps x, follows xs) (not_all (is_brace behind) (is_step x) (begins xs) (and_parts _ _ h).0)
