-- What a statement takes, and what it begins with.
use Rattle.std.proofs.Common.{◌≡◌, ◌<◌, ◌≤◌, Bool, true, false, List, [], ◌∷◌, length, Option, Some, None, refl, arith}
use Rattle.std.proofs.lemmas.Bool.{or_parts}
use Rattle.std.specs.Prelude.{◌||◌}
use Rattle.js_core.specs.Tree as tree
use Rattle.js_core.specs.declared.syntax.Declarator.{Declarator}
use Rattle.js_core.specs.declared.token.Punct.TheVariants as p
use Rattle.js_core.specs.declared.keyword.Keyword.TheVariants as kw
use Rattle.js_grammar.specs.declared.sign.Sign.{Sign}
use Rattle.js_grammar.specs.declared.sign.Sign.TheVariants.{Mark, Word}
use Rattle.js_grammar.specs.Symbols.{Lexeme, sign_of, sign_at}
use Rattle.js_grammar.specs.Operators.{Level}
use Rattle.js_grammar.specs.Phrases.{Phrase, mark, word, Separated, Many}
use Rattle.js_grammar.specs.Expressions.{Sequence}
use Rattle.js_grammar.specs.Endings.{Ending, is_right_brace}
use Rattle.js_grammar.specs.Statements.{End, semicolon, automatic, Clause, Declaration, bare, initialised, Braced, braced, Maybe, missing, present, Init, nothing, variables, expression, Case, case, default, Statement, block, variable, empty, expressed, conditional, alternative, do_while, while, for_loop, for_in, for_in_variable, continue, break, return, return_value, throw, try_catch, try_finally, try_both, switch, Element, is_statement, declaration, Elements}
use Rattle.js_grammar.specs.StatementReader.{begins_clause, has_more, has_more_in_clause}
use Rattle.js_grammar.proofs.Beginnings.{can_begin}
use Rattle.js_grammar.proofs.ListShapes.{separated_shorter, many_shorter}
use Rattle.js_grammar.proofs.ExpressionShapes.{procedure_shorter, left_shorter, assignment_shorter, sequence_shorter, sequence_begins}

pub end_shorter : {e : Ending} {x z : List Lexeme} → End e x z → length z ≤ length x
end_shorter semicolon = omega arith
end_shorter (automatic h) = omega arith

-- what comes behind the last statement of a list
abbrev pub is_behind : Option Sign → Bool
is_behind s = is_right_brace s || begins_clause s

begins_none : (s : Option Sign) → can_begin s ≡ true → is_behind s ≡ false
begins_none None e = refl
begins_none (Some (Mark p.RightBrace)) e = absurd (cc)
begins_none (Some (Mark _)) e = refl
begins_none (Some (Word kw.Case)) e = absurd (cc)
begins_none (Some (Word kw.Default)) e = absurd (cc)
begins_none (Some (Word _)) e = refl

pub more_at : (x z : List Lexeme) → length z < length x → is_behind (sign_at x) ≡ false → has_more x ≡ true
more_at [] z lt h = absurd (omega arith)
more_at (t ∷ ts) z lt h = rw ((or_parts (is_right_brace (sign_of t.0)) (begins_clause (sign_of t.0)) h).0) refl

pub more_in_clause : (x z : List Lexeme) → length z < length x → is_behind (sign_at x) ≡ false → has_more_in_clause x ≡ true
more_in_clause x z lt h = rw (more_at x z lt h, (or_parts (is_right_brace (sign_at x)) (begins_clause (sign_at x)) h).1) refl

module _ (Exp : Bool → Level → Bool → Phrase tree.Expr) (Body : Phrase (List tree.Stmt)) (Stm : Phrase tree.Stmt) (shorter : (inn : Bool) (level : Level) (g : Bool) (x z : List Lexeme) (a : tree.Expr) → Exp inn level g x z a → length z < length x) (body_shorter : (x z : List Lexeme) (found : List tree.Stmt) → Body x z found → length z ≤ length x) (stm_shorter : (x z : List Lexeme) (s : tree.Stmt) → Stm x z s → length z < length x) where
  expression_shorter : {inn g : Bool} {x z : List Lexeme} {a : tree.Expr} → Sequence Exp Body inn g x z a → length z < length x
  expression_shorter h = sequence_shorter Exp Body shorter body_shorter h

  pub declaration_shorter : (inn : Bool) (e : Ending) (x z : List Lexeme) (d : Declarator) → Declaration Exp Body Stm inn e x z d → length z < length x
  declaration_shorter inn e x z d bare = omega arith
  declaration_shorter inn e x z d (initialised {g = g} {x = x'} {a = a} h) = let a1 = assignment_shorter Exp Body shorter body_shorter inn g x' z a h in omega arith

  pub declarations_shorter : (inn : Bool) {e : Ending} {x z : List Lexeme} {found : List Declarator} → Separated (Declaration Exp Body Stm inn) e x z found → length z < length x
  declarations_shorter inn h = separated_shorter (Declaration Exp Body Stm inn) (declaration_shorter inn) h

  pub list_shorter : {x z : List Lexeme} {found : List tree.Stmt} → Many Stm x z found → length z ≤ length x
  list_shorter h = many_shorter Stm stm_shorter h

  pub braced_shorter : {x z : List Lexeme} {found : List tree.Stmt} → Braced Exp Body Stm x z found → length z < length x
  braced_shorter (braced h) = let a1 = list_shorter h in omega arith

  pub maybe_shorter : {x z : List Lexeme} {a : Option tree.Expr} → Maybe Exp Body Stm x z a → length z ≤ length x
  maybe_shorter missing = omega arith
  maybe_shorter (present h) = let a1 = expression_shorter h in omega arith

  pub init_shorter : {x z : List Lexeme} {i : tree.ForInit} → Init Exp Body Stm x z i → length z ≤ length x
  init_shorter nothing = omega arith
  init_shorter (variables h) = let a1 = declarations_shorter false h in omega arith
  init_shorter (expression h) = let a1 = expression_shorter h in omega arith

  pub case_shorter : (x z : List Lexeme) (c : Clause) → Case Exp Body Stm x z c → length z < length x
  case_shorter x z c (case h i) = let a1 = expression_shorter h in let a2 = list_shorter i in omega arith
  case_shorter x z c (default h) = let a1 = list_shorter h in omega arith

  pub statement_shorter : (x z : List Lexeme) (s : tree.Stmt) → Statement Exp Body Stm x z s → length z < length x
  statement_shorter x z s (block h) = braced_shorter h
  statement_shorter x z s (variable h e) = let a1 = declarations_shorter true h in let a2 = end_shorter e in omega arith
  statement_shorter x z s empty = omega arith
  statement_shorter x z s (expressed n h e) = let a1 = expression_shorter h in let a2 = end_shorter e in omega arith
  statement_shorter x z s (conditional {y = y} {s = t} h i n) = let a1 = expression_shorter h in let a2 = stm_shorter y z t i in omega arith
  statement_shorter x z s (alternative {i = i} {y = y} {v = v} {s = t} {t = u} h j k) = let a1 = expression_shorter h in let a2 = stm_shorter y (word kw.Else i ∷ v) t j in let a3 = stm_shorter v z u k in omega arith
  statement_shorter x z s (do_while {k = k} {j = j} {x = x'} {y = y} {s = t} h i e) = let a1 = stm_shorter x' (word kw.While k ∷ mark p.LeftParenthesis j ∷ y) t h in let a2 = expression_shorter i in let a3 = end_shorter e in omega arith
  statement_shorter x z s (while {y = y} {s = t} h i) = let a1 = expression_shorter h in let a2 = stm_shorter y z t i in omega arith
  statement_shorter x z s (for_loop {u = u} {s = t} h i j k) = let a1 = init_shorter h in let a2 = maybe_shorter i in let a3 = maybe_shorter j in let a4 = stm_shorter u z t k in omega arith
  statement_shorter x z s (for_in {v = v} {s = t} h i j) = let a1 = left_shorter Exp Body shorter body_shorter h in let a2 = expression_shorter i in let a3 = stm_shorter v z t j in omega arith
  statement_shorter x z s (for_in_variable {v = v} {s = t} h i) = let a1 = expression_shorter h in let a2 = stm_shorter v z t i in omega arith
  statement_shorter x z s (continue e) = let a1 = end_shorter e in omega arith
  statement_shorter x z s (break e) = let a1 = end_shorter e in omega arith
  statement_shorter x z s (return e) = let a1 = end_shorter e in omega arith
  statement_shorter x z s (return_value n h e) = let a1 = expression_shorter h in let a2 = end_shorter e in omega arith
  statement_shorter x z s (throw n h e) = let a1 = expression_shorter h in let a2 = end_shorter e in omega arith
  statement_shorter x z s (try_catch h i n) = let a1 = braced_shorter h in let a2 = braced_shorter i in omega arith
  statement_shorter x z s (try_finally h i) = let a1 = braced_shorter h in let a2 = braced_shorter i in omega arith
  statement_shorter x z s (try_both h i j) = let a1 = braced_shorter h in let a2 = braced_shorter i in let a3 = braced_shorter j in omega arith
  statement_shorter x z s (switch h i n) = let a1 = expression_shorter h in let a2 = many_shorter (Case Exp Body Stm) case_shorter i in omega arith

  pub element_shorter : (x z : List Lexeme) (s : tree.Stmt) → Element Exp Body Stm x z s → length z < length x
  element_shorter x z s (is_statement h) = statement_shorter x z s h
  element_shorter x z s (declaration h) = let a1 = procedure_shorter Exp Body shorter body_shorter h in omega arith

  pub elements_shorter : (x z : List Lexeme) (found : List tree.Stmt) → Elements Exp Body Stm x z found → length z ≤ length x
  elements_shorter x z found h = many_shorter (Element Exp Body Stm) element_shorter h

module _ (Exp : Bool → Level → Bool → Phrase tree.Expr) (Body : Phrase (List tree.Stmt)) (Stm : Phrase tree.Stmt) where
  pub statement_begins : (x z : List Lexeme) (s : tree.Stmt) → Statement Exp Body Stm x z s → is_behind (sign_at x) ≡ false
  statement_begins x z s (block (braced h)) = refl
  statement_begins x z s (variable h e) = refl
  statement_begins x z s empty = refl
  statement_begins x z s (expressed n h e) = begins_none (sign_at x) (sequence_begins Exp Body h)
  statement_begins x z s (conditional h i n) = refl
  statement_begins x z s (alternative h j k) = refl
  statement_begins x z s (do_while h i e) = refl
  statement_begins x z s (while h i) = refl
  statement_begins x z s (for_loop h i j k) = refl
  statement_begins x z s (for_in h i j) = refl
  statement_begins x z s (for_in_variable h i) = refl
  statement_begins x z s (continue e) = refl
  statement_begins x z s (break e) = refl
  statement_begins x z s (return e) = refl
  statement_begins x z s (return_value n h e) = refl
  statement_begins x z s (throw n h e) = refl
  statement_begins x z s (try_catch h i n) = refl
  statement_begins x z s (try_finally h i) = refl
  statement_begins x z s (try_both h i j) = refl
  statement_begins x z s (switch h i n) = refl

  pub element_begins : (x z : List Lexeme) (s : tree.Stmt) → Element Exp Body Stm x z s → is_behind (sign_at x) ≡ false
  element_begins x z s (is_statement h) = statement_begins x z s h
  element_begins x z s (declaration h) = refl
