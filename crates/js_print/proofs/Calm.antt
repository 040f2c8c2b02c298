-- In the lexemes of a tree each may stand behind the one before it: behind an operator stands an operand, behind `=` what
-- does not begin with it, and before a point no number.
use Rattle.std.proofs.Common.{◌≡◌, ◌∙◌, ℕ, Bool, true, false, List, [], ◌∷◌, ◌++◌, Option, Some, None, refl, ap, sym, append_assoc}
use Rattle.std.specs.Prelude.{not, ◌&&◌, if◌then◌else◌}
use Rattle.std.proofs.lemmas.List.{append-nil}
use Rattle.std.proofs.lemmas.Bool.{and_from, and_parts, not-true}
use Rattle.js_core.specs.Tree as tree
use Rattle.js_core.specs.Tree.{name, num, text, bool, null, this, list, literal, func, member, index, call, construct, unary, update, binary, logical_and, logical_or, conditional, assign, comma, no_exprs, then_expr, no_expr, one_expr, no_holes, then_hole, no_fields, then_field, code, var, function, expr, empty, block, if_else, do_while, while, for, for_in, continue, break, return, throw, try, switch, no_stmts, then_stmt, no_body, one_body, no_declarators, then_declarator, no_init, init_var, init_expr, no_catch, one_catch, no_cases, then_case}
use Rattle.js_core.specs.declared.operators.UnaryOp.{UnaryOp}
use Rattle.js_core.specs.declared.operators.BinaryOp.{BinaryOp}
use Rattle.js_core.specs.declared.operators.UnaryOp.TheVariants as op1
use Rattle.js_core.specs.declared.operators.BinaryOp.TheVariants as op2
use Rattle.js_core.specs.declared.token.Punct.TheVariants as punct
use Rattle.js_core.specs.declared.keyword.Keyword.{Keyword as Word}
use Rattle.js_core.specs.declared.keyword.Keyword.TheVariants as keyword
use Rattle.js_print.specs.declared.lexeme.Lexeme.{Lexeme}
use Rattle.js_print.specs.declared.lexeme.Lexeme.TheVariants.{Name, Number, Punct}
use Rattle.js_print.specs.declared.place.Place.{Place}
use Rattle.js_print.specs.declared.place.Place.TheVariants.{Operand, Base, Constructor, Part, Whole, Statement}
use Rattle.js_print.specs.Lexemes.{boolean_lexeme, updated, separator, maybe_name, more_names, names, maybe_var, expr_lexemes, parts_lexemes, more_parts_lexemes, hole_lexemes, holes_lexemes, fields_lexemes, more_fields_lexemes, code_lexemes, stmt_lexemes, stmts_lexemes, maybe_whole_lexemes, maybe_body_lexemes, maybe_catch_lexemes, initialiser_lexemes, declarators_lexemes, more_declarators_lexemes, init_lexemes, case_label_lexemes, cases_lexemes}
use Rattle.js_print.specs.Operators.{unary_lexeme, update_punct, binary_lexeme, assign_punct}
use Rattle.js_print.specs.Places.{is_simple, is_number, is_comma, is_bare, placed, parenthesised, braced}
use Rattle.js_print.proofs.Neighbours.{refused_behind, is_empty, meets, calm, is_point, is_settled, start, free_meets, behind_free, begins_with_point, behind_number, is_mild, mild_meets}

-- before lexemes that are calm, and do not begin with a point, these are calm with them
pub record Calm (xs : List Lexeme) : Type 0 where
  pub first : begins_with_point xs ≡ false
  pub run : (rest : List Lexeme) → begins_with_point rest ≡ false → calm start rest ≡ true → calm start (xs ++ rest) ≡ true

nothing : Calm []
nothing = record { first = refl; run = λ rest e h. h }

-- the first of them may stand behind the lexeme
abbrev follows : Lexeme → List Lexeme → Bool
follows x [] = false
follows x (y ∷ ys) = meets x y

behind_first : {xs : List Lexeme} (x : Lexeme) → is_point x ≡ false → follows x xs ≡ true → Calm xs → Calm (x ∷ xs)
behind_first {xs = []} x e f c = absurd (cc)
behind_first {xs = y ∷ ys} x e f c = record { first = e; run = λ rest d h. and_from _ _ (free_meets start x refl) (and_from _ _ f (and_parts _ _ (c.run rest d h)).1) }

-- one behind which every other may stand, and others
behind : {xs : List Lexeme} (x : Lexeme) → is_settled x ≡ true → Calm xs → Calm (x ∷ xs)
behind {xs} x e c = record {
  first = not-true (is_point x) (and_parts _ _ e).1;
  run = λ rest d h. and_from _ _ (free_meets start x refl) (behind_free x (xs ++ rest) (and_parts _ _ e).0 (c.run rest d h));
}

one : (x : Lexeme) → is_settled x ≡ true → Calm (x ∷ [])
one x e = behind x e nothing

first_of_both : (xs ys : List Lexeme) → begins_with_point xs ≡ false → begins_with_point ys ≡ false → begins_with_point (xs ++ ys) ≡ false
first_of_both [] ys e f = f
first_of_both (x ∷ xs) ys e f = e

both : {xs ys : List Lexeme} → Calm xs → Calm ys → Calm (xs ++ ys)
both {xs} {ys} c d = record {
  first = first_of_both xs ys c.first d.first;
  run = λ rest e h. ap (calm start) (append_assoc xs ys rest) ∙ c.run (ys ++ rest) (first_of_both ys rest d.first e) (d.run rest e h);
}

a_number : (n : _) → Calm (Number n ∷ [])
a_number n = record { first = refl; run = λ rest e h. behind_number n rest e h }

in_parentheses : {xs : List Lexeme} → Calm xs → Calm (parenthesised xs)
in_parentheses c = behind (Punct punct.LeftParenthesis) refl (both c (one (Punct punct.RightParenthesis) refl))

in_braces : {xs : List Lexeme} → Calm xs → Calm (braced xs)
in_braces c = behind (Punct punct.LeftBrace) refl (both c (one (Punct punct.RightBrace) refl))

in_place : (place : Place) (e : tree.Expr) (xs : List Lexeme) → Calm xs → Calm (placed place e xs)
in_place place e xs c = by_test (is_bare place e)
  where
    by_test : (b : Bool) → Calm (if b then xs else parenthesised xs)
    by_test true = c
    by_test false = in_parentheses c

-- ---- operands

-- there is a first, and it is mild
abbrev begins_well : List Lexeme → Bool
begins_well [] = false
begins_well (x ∷ xs) = is_mild x

begun : (xs ys : List Lexeme) → begins_well xs ≡ true → begins_well (xs ++ ys) ≡ true
begun [] ys h = absurd (cc)
begun (x ∷ xs) ys h = h

operand_begins : (b : Bool) (xs : List Lexeme) → (b ≡ true → begins_well xs ≡ true) → begins_well (if b then xs else parenthesised xs) ≡ true
operand_begins true xs f = f refl
operand_begins false xs f = refl

simple_begins : (e : tree.Expr) → is_simple e ≡ true → begins_well (expr_lexemes e) ≡ true
simple_begins (name x) h = refl
simple_begins (num n) h = refl
simple_begins (text x) h = refl
simple_begins (bool true) h = refl
simple_begins (bool false) h = refl
simple_begins null h = refl
simple_begins this h = refl
simple_begins (list es) h = refl
simple_begins (member e x) h =
    begun (placed Base e (expr_lexemes e)) (Punct punct.Dot ∷ Name x ∷ []) (operand_begins (is_simple e && not (is_number e)) (expr_lexemes e) (λ b. simple_begins e (and_parts _ _ b).0))
simple_begins (index a b) h =
    begun (placed Base a (expr_lexemes a)) (Punct punct.LeftBracket ∷ (placed Part b (expr_lexemes b) ++ Punct punct.RightBracket ∷ [])) (operand_begins (is_simple a && not (is_number a)) (expr_lexemes a) (λ c. simple_begins a (and_parts _ _ c).0))
simple_begins (call f es) h =
    begun (placed Operand f (expr_lexemes f)) (parenthesised (parts_lexemes es)) (operand_begins (is_simple f) (expr_lexemes f) (simple_begins f))
simple_begins e h = absurd (cc)

well_follows : (x : Lexeme) (xs : List Lexeme) → begins_well xs ≡ true → follows x xs ≡ true
well_follows x [] h = absurd (cc)
well_follows x (y ∷ ys) h = mild_meets x y h

operand_follows : (x : Lexeme) (a : tree.Expr) → follows x (placed Operand a (expr_lexemes a)) ≡ true
operand_follows x a = well_follows x (placed Operand a (expr_lexemes a)) (operand_begins (is_simple a) (expr_lexemes a) (simple_begins a))

behind_operand : (a : tree.Expr) (x : Lexeme) → is_point x ≡ false → Calm (placed Operand a (expr_lexemes a)) → Calm (x ∷ placed Operand a (expr_lexemes a))
behind_operand a x e c = behind_first x e (operand_follows x a) c

unary_is_no_point : (op : UnaryOp) → is_point (unary_lexeme op) ≡ false
unary_is_no_point op1.Delete = refl
unary_is_no_point op = refl

binary_is_no_point : (op : BinaryOp) → is_point (binary_lexeme op) ≡ false
binary_is_no_point op2.Less = refl
binary_is_no_point op = refl

update_is_settled : (up : Bool) → is_settled (Punct (update_punct up)) ≡ true
update_is_settled true = refl
update_is_settled false = refl

updated_calm : (up prefix : Bool) (xs : List Lexeme) → Calm xs → Calm (updated up prefix xs)
updated_calm up true xs c = behind _ (update_is_settled up) c
updated_calm up false xs c = both c (one _ (update_is_settled up))

boolean_calm : (b : Bool) → Calm (boolean_lexeme b ∷ [])
boolean_calm true = one _ refl
boolean_calm false = one _ refl

-- ---- names and commas

maybe_name_calm : (x : Option (List ℕ)) → Calm (maybe_name x)
maybe_name_calm None = nothing
maybe_name_calm (Some x) = one _ refl

more_names_calm : (xs : List (List ℕ)) → Calm (more_names xs)
more_names_calm [] = nothing
more_names_calm (x ∷ xs) = behind _ refl (behind _ refl (more_names_calm xs))

names_calm : (xs : List (List ℕ)) → Calm (names xs)
names_calm [] = nothing
names_calm (x ∷ xs) = behind _ refl (more_names_calm xs)

maybe_var_calm : (b : Bool) → Calm (maybe_var b)
maybe_var_calm true = one _ refl
maybe_var_calm false = nothing

separator_calm : (e : tree.MaybeExpr) (es : tree.Holes) → Calm (separator e es)
separator_calm no_expr es = one _ refl
separator_calm (one_expr e) no_holes = nothing
separator_calm (one_expr e) (then_hole f es) = one _ refl

-- ---- what is assigned

abbrev equals : Lexeme
equals = Punct punct.SimpleAssign

begun_follows : (x : Lexeme) (xs ys : List Lexeme) → follows x xs ≡ true → follows x (xs ++ ys) ≡ true
begun_follows x [] ys h = absurd (cc)
begun_follows x (y ∷ xs) ys h = h

behind_operand_follows : (x : Lexeme) (a : tree.Expr) (ys : List Lexeme) → follows x (placed Operand a (expr_lexemes a) ++ ys) ≡ true
behind_operand_follows x a ys = begun_follows x (placed Operand a (expr_lexemes a)) ys (operand_follows x a)

sign_follows : (op : UnaryOp) (xs : List Lexeme) → follows equals (unary_lexeme op ∷ xs) ≡ true
sign_follows op1.Delete xs = refl
sign_follows op xs = refl

update_follows : (up prefix : Bool) (a : tree.Expr) → follows equals (updated up prefix (placed Operand a (expr_lexemes a))) ≡ true
update_follows true true a = refl
update_follows false true a = refl
update_follows up false a = behind_operand_follows equals a (Punct (update_punct up) ∷ [])

expr_follows : (e : tree.Expr) → is_comma e ≡ false → follows equals (expr_lexemes e) ≡ true
expr_follows (name x) h = refl
expr_follows (num n) h = refl
expr_follows (text x) h = refl
expr_follows (bool true) h = refl
expr_follows (bool false) h = refl
expr_follows null h = refl
expr_follows this h = refl
expr_follows (list es) h = refl
expr_follows (literal fs) h = refl
expr_follows (func (code x formals body)) h = refl
expr_follows (member e x) h = well_follows equals _ (simple_begins (member e x) refl)
expr_follows (index a b) h = well_follows equals _ (simple_begins (index a b) refl)
expr_follows (call f es) h = well_follows equals _ (simple_begins (call f es) refl)
expr_follows (construct f es) h = refl
expr_follows (unary op a) h = sign_follows op (placed Operand a (expr_lexemes a))
expr_follows (update up prefix a) h = update_follows up prefix a
expr_follows (binary op a b) h = behind_operand_follows equals a (binary_lexeme op ∷ placed Operand b (expr_lexemes b))
expr_follows (logical_and a b) h = behind_operand_follows equals a (Punct punct.DoubleAmpersand ∷ placed Operand b (expr_lexemes b))
expr_follows (logical_or a b) h = behind_operand_follows equals a (Punct punct.DoubleVerticalBar ∷ placed Operand b (expr_lexemes b))
expr_follows (conditional a b c) h =
    behind_operand_follows equals a (Punct punct.QuestionMark ∷ (placed Operand b (expr_lexemes b) ++ Punct punct.Colon ∷ placed Operand c (expr_lexemes c)))
expr_follows (assign op a b) h = behind_operand_follows equals a (Punct (assign_punct op) ∷ placed Part b (expr_lexemes b))
expr_follows (comma es) h = absurd (cc)

part_follows : (e : tree.Expr) → follows equals (placed Part e (expr_lexemes e)) ≡ true
part_follows e = by_test (is_bare Part e) (λ b. expr_follows e (not-true (is_comma e) (and_parts _ _ b).1))
  where
    by_test : (b : Bool) → (b ≡ true → follows equals (expr_lexemes e) ≡ true) → follows equals (if b then expr_lexemes e else parenthesised (expr_lexemes e)) ≡ true
    by_test true f = f refl
    by_test false f = refl

behind_assign : (op : Option BinaryOp) (b : tree.Expr) → Calm (placed Part b (expr_lexemes b)) → Calm (Punct (assign_punct op) ∷ placed Part b (expr_lexemes b))
behind_assign None b c = behind_first _ refl (part_follows b) c
behind_assign (Some op2.Less) b c = behind_first _ refl (part_follows b) c
behind_assign (Some op2.Greater) b c = behind_first _ refl (part_follows b) c
behind_assign (Some op2.LessEq) b c = behind_first _ refl (part_follows b) c
behind_assign (Some op2.GreaterEq) b c = behind_first _ refl (part_follows b) c
behind_assign (Some op2.InstanceOf) b c = behind_first _ refl (part_follows b) c
behind_assign (Some op2.Within) b c = behind_first _ refl (part_follows b) c
behind_assign (Some op2.Equal) b c = behind_first _ refl (part_follows b) c
behind_assign (Some op2.Unequal) b c = behind_first _ refl (part_follows b) c
behind_assign (Some op2.Same) b c = behind_first _ refl (part_follows b) c
behind_assign (Some op2.NotSame) b c = behind_first _ refl (part_follows b) c
behind_assign (Some op) b c = behind _ refl c

-- ---- what no number ends

-- before lexemes that are calm these are calm with them, also where a point stands behind them
record Ended (xs : List Lexeme) : Type 0 where
  run : (rest : List Lexeme) → calm start rest ≡ true → calm start (xs ++ rest) ≡ true

last : {xs : List Lexeme} (x : Lexeme) → is_settled x ≡ true → Calm xs → Ended (xs ++ x ∷ [])
last {xs} x e c = record {
  run = λ rest h.
      ap (calm start) (append_assoc xs (x ∷ []) rest)
      ∙ c.run (x ∷ rest) (not-true (is_point x) (and_parts _ _ e).1) (and_from _ _ (free_meets start x refl) (behind_free x rest (and_parts _ _ e).0 h));
}

last_alone : (x : Lexeme) → is_settled x ≡ true → Ended (x ∷ [])
last_alone x e = last x e nothing

before_ended : {xs ys : List Lexeme} (x : Lexeme) → is_point x ≡ false → Calm xs → Ended (x ∷ ys) → Ended (xs ++ x ∷ ys)
before_ended {xs} {ys} x e c d = record { run = λ rest h. ap (calm start) (append_assoc xs (x ∷ ys) rest) ∙ c.run (x ∷ (ys ++ rest)) e (d.run rest h) }

behind_ended : {xs : List Lexeme} (x : Lexeme) → is_empty (refused_behind x) ≡ true → Ended xs → Ended (x ∷ xs)
behind_ended {xs} x e c = record { run = λ rest h. and_from _ _ (free_meets start x refl) (behind_free x (xs ++ rest) e (c.run rest h)) }

both_ended : {xs ys : List Lexeme} → Ended xs → Ended ys → Ended (xs ++ ys)
both_ended {xs} {ys} c d = record { run = λ rest h. ap (calm start) (append_assoc xs ys rest) ∙ c.run (ys ++ rest) (d.run rest h) }

parenthesised_ended : {xs : List Lexeme} → Calm xs → Ended (parenthesised xs)
parenthesised_ended c = behind_ended (Punct punct.LeftParenthesis) refl (last (Punct punct.RightParenthesis) refl c)

placed_ended : (b : Bool) (xs : List Lexeme) → (b ≡ true → Ended xs) → Calm xs → Ended (if b then xs else parenthesised xs)
placed_ended true xs f c = f refl
placed_ended false xs f c = parenthesised_ended c

boolean_ended : (b : Bool) → Ended (boolean_lexeme b ∷ [])
boolean_ended true = last_alone _ refl
boolean_ended false = last_alone _ refl

property : (x : List ℕ) → Ended (Punct punct.Dot ∷ Name x ∷ [])
property x = behind_ended (Punct punct.Dot) refl (last_alone (Name x) refl)

mild_is_no_point : (x : Lexeme) → is_mild x ≡ true → is_point x ≡ false
mild_is_no_point (Punct punct.Dot) e = absurd (cc)
mild_is_no_point (Punct p) e = refl
mild_is_no_point x e = refl

well_begins_with_none : (xs : List Lexeme) → begins_well xs ≡ true → begins_with_point xs ≡ false
well_begins_with_none [] e = absurd (cc)
well_begins_with_none (x ∷ xs) e = mild_is_no_point x e

behind_base : (e : tree.Expr) (x : List ℕ) → Ended (placed Base e (expr_lexemes e)) → Calm (placed Base e (expr_lexemes e) ++ Punct punct.Dot ∷ Name x ∷ [])
behind_base e x c = record {
  first = well_begins_with_none _ (simple_begins (member e x) refl);
  run = λ rest d h. (both_ended c (property x)).run rest h;
}

-- ---- trees

mutual
  expr_calm : (e : tree.Expr) → Calm (expr_lexemes e)
  expr_calm (name x) = one _ refl
  expr_calm (num n) = a_number n
  expr_calm (text x) = one _ refl
  expr_calm (bool b) = boolean_calm b
  expr_calm null = one _ refl
  expr_calm this = one _ refl
  expr_calm (list es) = behind _ refl (both (holes_calm es) (one _ refl))
  expr_calm (literal fs) = in_braces (fields_calm fs)
  expr_calm (func c) = code_calm c
  expr_calm (member e x) = behind_base e x (placed_ended (is_simple e && not (is_number e)) (expr_lexemes e) (base_ended e) (expr_calm e))
  expr_calm (index a b) = both (in_place Base a _ (expr_calm a)) (behind _ refl (both (in_place Part b _ (expr_calm b)) (one _ refl)))
  expr_calm (call f es) = both (in_place Operand f _ (expr_calm f)) (in_parentheses (parts_calm es))
  expr_calm (construct f es) = behind _ refl (both (in_place Constructor f _ (expr_calm f)) (in_parentheses (parts_calm es)))
  expr_calm (unary op a) = behind_operand a (unary_lexeme op) (unary_is_no_point op) (in_place Operand a _ (expr_calm a))
  expr_calm (update up prefix a) = updated_calm up prefix _ (in_place Operand a _ (expr_calm a))
  expr_calm (binary op a b) = both (in_place Operand a _ (expr_calm a)) (behind_operand b (binary_lexeme op) (binary_is_no_point op) (in_place Operand b _ (expr_calm b)))
  expr_calm (logical_and a b) = both (in_place Operand a _ (expr_calm a)) (behind _ refl (in_place Operand b _ (expr_calm b)))
  expr_calm (logical_or a b) = both (in_place Operand a _ (expr_calm a)) (behind _ refl (in_place Operand b _ (expr_calm b)))
  expr_calm (conditional a b c) =
      both (in_place Operand a _ (expr_calm a)) (behind _ refl (both (in_place Operand b _ (expr_calm b)) (behind _ refl (in_place Operand c _ (expr_calm c)))))
  expr_calm (assign op a b) = both (in_place Operand a _ (expr_calm a)) (behind_assign op b (in_place Part b _ (expr_calm b)))
  expr_calm (comma es) = parts_calm es

  base_ended : (e : tree.Expr) → (is_simple e && not (is_number e)) ≡ true → Ended (expr_lexemes e)
  base_ended (name x) h = last_alone _ refl
  base_ended (text x) h = last_alone _ refl
  base_ended (bool b) h = boolean_ended b
  base_ended null h = last_alone _ refl
  base_ended this h = last_alone _ refl
  base_ended (list es) h = behind_ended _ refl (last _ refl (holes_calm es))
  base_ended (member e x) h = both_ended (placed_ended (is_simple e && not (is_number e)) (expr_lexemes e) (base_ended e) (expr_calm e)) (property x)
  base_ended (index a b) h =
      both_ended (placed_ended (is_simple a && not (is_number a)) (expr_lexemes a) (base_ended a) (expr_calm a)) (behind_ended _ refl (last _ refl (in_place Part b _ (expr_calm b))))
  base_ended (call f es) h = before_ended _ refl (in_place Operand f _ (expr_calm f)) (parenthesised_ended (parts_calm es))
  base_ended e h = absurd (cc)

  parts_calm : (es : tree.Exprs) → Calm (parts_lexemes es)
  parts_calm no_exprs = nothing
  parts_calm (then_expr e es) = both (in_place Part e _ (expr_calm e)) (more_parts_calm es)

  more_parts_calm : (es : tree.Exprs) → Calm (more_parts_lexemes es)
  more_parts_calm no_exprs = nothing
  more_parts_calm (then_expr e es) = behind _ refl (both (in_place Part e _ (expr_calm e)) (more_parts_calm es))

  hole_calm : (e : tree.MaybeExpr) → Calm (hole_lexemes e)
  hole_calm no_expr = nothing
  hole_calm (one_expr e) = in_place Part e _ (expr_calm e)

  holes_calm : (es : tree.Holes) → Calm (holes_lexemes es)
  holes_calm no_holes = nothing
  holes_calm (then_hole e es) = both (hole_calm e) (both (separator_calm e es) (holes_calm es))

  fields_calm : (fs : tree.Fields) → Calm (fields_lexemes fs)
  fields_calm no_fields = nothing
  fields_calm (then_field x e fs) = behind _ refl (behind _ refl (both (in_place Part e _ (expr_calm e)) (more_fields_calm fs)))

  more_fields_calm : (fs : tree.Fields) → Calm (more_fields_lexemes fs)
  more_fields_calm no_fields = nothing
  more_fields_calm (then_field x e fs) = behind _ refl (behind _ refl (behind _ refl (both (in_place Part e _ (expr_calm e)) (more_fields_calm fs))))

  pub code_calm : (c : tree.Code) → Calm (code_lexemes c)
  code_calm (code x formals body) = behind _ refl (both (maybe_name_calm x) (both (in_parentheses (names_calm formals)) (in_braces (stmts_calm body))))

  stmt_calm : (s : tree.Stmt) → Calm (stmt_lexemes s)
  stmt_calm (var ds) = behind _ refl (both (declarators_calm ds) (one _ refl))
  stmt_calm (function c) = code_calm c
  stmt_calm (expr e) = both (in_place Statement e _ (expr_calm e)) (one _ refl)
  stmt_calm empty = one _ refl
  stmt_calm (block ss) = in_braces (stmts_calm ss)
  stmt_calm (if_else e a b) = behind _ refl (both (in_parentheses (in_place Whole e _ (expr_calm e))) (both (in_braces (stmts_calm a)) (maybe_body_calm keyword.Else b)))
  stmt_calm (do_while body e) = behind _ refl (both (in_braces (stmts_calm body)) (behind _ refl (both (in_parentheses (in_place Whole e _ (expr_calm e))) (one _ refl))))
  stmt_calm (while e body) = behind _ refl (both (in_parentheses (in_place Whole e _ (expr_calm e))) (in_braces (stmts_calm body)))
  stmt_calm (for i t s body) =
      behind _ refl (both (in_parentheses (both (init_calm i) (behind _ refl (both (maybe_whole_calm t) (behind _ refl (maybe_whole_calm s)))))) (in_braces (stmts_calm body)))
  stmt_calm (for_in declared t e body) =
      behind _ refl (both (in_parentheses (both (maybe_var_calm declared) (both (in_place Operand t _ (expr_calm t)) (behind _ refl (in_place Whole e _ (expr_calm e)))))) (in_braces (stmts_calm body)))
  stmt_calm continue = behind _ refl (one _ refl)
  stmt_calm break = behind _ refl (one _ refl)
  stmt_calm (return e) = behind _ refl (both (maybe_whole_calm e) (one _ refl))
  stmt_calm (throw e) = behind _ refl (both (in_place Whole e _ (expr_calm e)) (one _ refl))
  stmt_calm (try b c l) = behind _ refl (both (in_braces (stmts_calm b)) (both (maybe_catch_calm c) (maybe_body_calm keyword.Finally l)))
  stmt_calm (switch e cs) = behind _ refl (both (in_parentheses (in_place Whole e _ (expr_calm e))) (in_braces (cases_calm cs)))

  pub stmts_calm : (ss : tree.Stmts) → Calm (stmts_lexemes ss)
  stmts_calm no_stmts = nothing
  stmts_calm (then_stmt s ss) = both (stmt_calm s) (stmts_calm ss)

  maybe_whole_calm : (e : tree.MaybeExpr) → Calm (maybe_whole_lexemes e)
  maybe_whole_calm no_expr = nothing
  maybe_whole_calm (one_expr e) = in_place Whole e _ (expr_calm e)

  maybe_body_calm : (k : Word) (b : tree.MaybeStmts) → Calm (maybe_body_lexemes k b)
  maybe_body_calm k no_body = nothing
  maybe_body_calm k (one_body ss) = behind _ refl (in_braces (stmts_calm ss))

  maybe_catch_calm : (c : tree.MaybeCatch) → Calm (maybe_catch_lexemes c)
  maybe_catch_calm no_catch = nothing
  maybe_catch_calm (one_catch x ss) = behind _ refl (both (in_parentheses (one _ refl)) (in_braces (stmts_calm ss)))

  initialiser_calm : (e : tree.MaybeExpr) → Calm (initialiser_lexemes e)
  initialiser_calm no_expr = nothing
  initialiser_calm (one_expr e) = behind_first _ refl (part_follows e) (in_place Part e _ (expr_calm e))

  declarators_calm : (ds : tree.Declarators) → Calm (declarators_lexemes ds)
  declarators_calm no_declarators = nothing
  declarators_calm (then_declarator x e ds) = behind _ refl (both (initialiser_calm e) (more_declarators_calm ds))

  more_declarators_calm : (ds : tree.Declarators) → Calm (more_declarators_lexemes ds)
  more_declarators_calm no_declarators = nothing
  more_declarators_calm (then_declarator x e ds) = behind _ refl (behind _ refl (both (initialiser_calm e) (more_declarators_calm ds)))

  init_calm : (i : tree.ForInit) → Calm (init_lexemes i)
  init_calm no_init = nothing
  init_calm (init_var ds) = behind _ refl (declarators_calm ds)
  init_calm (init_expr e) = in_place Whole e _ (expr_calm e)

  case_label_calm : (e : tree.MaybeExpr) → Calm (case_label_lexemes e)
  case_label_calm no_expr = behind _ refl (one _ refl)
  case_label_calm (one_expr e) = behind _ refl (both (in_place Part e _ (expr_calm e)) (one _ refl))

  cases_calm : (cs : tree.Cases) → Calm (cases_lexemes cs)
  cases_calm no_cases = nothing
  cases_calm (then_case e ss cs) = both (case_label_calm e) (both (stmts_calm ss) (cases_calm cs))

-- the lexemes of a tree alone
pub alone : (xs : List Lexeme) → Calm xs → calm start xs ≡ true
alone xs c = ap (calm start) (sym (append-nil xs)) ∙ c.run [] refl refl
