-- Statements and source elements are read as the grammar has them.
use Rattle.std.proofs.Common.{◌≡◌, ℕ, suc, ◌+◌, ◌<◌, ◌≤◌, Bool, true, false, List, [], ◌∷◌, length, Option, Some, None, refl, subst, ◌∙◌, arith}
use Rattle.std.proofs.lemmas.Bool.{not-true}
use Rattle.js_core.specs.Tree as tree
use Rattle.js_core.specs.Tree.{stmts_of, maybe_expr, no_body, one_body, no_catch, one_catch}
use Rattle.js_core.specs.Views.{declarators_of}
use Rattle.js_core.specs.Height.{stmt_height, stmts_height}
use Rattle.js_core.specs.declared.syntax.Declarator.{Declarator}
use Rattle.js_core.specs.declared.token.Punct.TheVariants as p
use Rattle.js_core.specs.declared.keyword.Keyword.TheVariants as kw
use Rattle.js_grammar.specs.declared.sign.Sign.{Sign}
use Rattle.js_grammar.specs.declared.sign.Sign.TheVariants.{Mark, Word}
use Rattle.js_grammar.specs.Symbols.{Lexeme, sign_of, sign_at}
use Rattle.js_grammar.specs.Operators.{Level}
use Rattle.js_grammar.specs.Parser.{Parser, Outcome, and_then, sees, expect, eat, taken}
use Rattle.js_grammar.specs.Phrases.{Phrase, mark, word, Separated, only, further}
use Rattle.js_grammar.specs.Expressions.{Sequence}
use Rattle.js_grammar.specs.Endings.{Ending, after_expression, after_name, after_all, is_right_brace, same_line, is_excluded}
use Rattle.js_grammar.specs.Statements.{body_of, Clause, cases_from, End, semicolon, automatic, Declaration, bare, initialised, braced, Case, case, default, Statement, block, variable, empty, expressed, conditional, alternative, do_while, while, for_loop, for_in, for_in_variable, continue, break, return, return_value, throw, try_catch, try_finally, try_both, switch, Element, is_statement, declaration, Elements}
use Rattle.js_grammar.specs.StatementReader as reader
use Rattle.js_grammar.specs.StatementReader.{ended, has_more, has_more_in_clause, returns}
use Rattle.js_grammar.proofs.Beginnings.{can_begin}
use Rattle.js_grammar.proofs.Heights.{Fits}
use Rattle.js_grammar.proofs.StatementHeights.{StatementFits, statements_fit, body_fits, ClauseFits, clauses_fit}
use Rattle.js_grammar.proofs.ExpressionShapes.{sequence_shorter, sequence_begins}
use Rattle.js_grammar.proofs.StatementShapes.{more_at, more_in_clause, braced_shorter, case_shorter, element_shorter, element_begins}
use Rattle.js_grammar.proofs.Steps.{then_reads, kept}
use Rattle.js_grammar.proofs.ListsRead.{many_reads}
use Rattle.js_grammar.proofs.Signs.{not_first}
use Rattle.js_grammar.proofs.EndsRead.{end_reads, end_stops, name_stops}
use Rattle.js_grammar.proofs.Inner.{Inner}
use Rattle.js_grammar.proofs.InnerStatements.{InnerStatements}
use Rattle.js_grammar.proofs.PrimaryReads.{procedure_reads}
use Rattle.js_grammar.proofs.ExpressionReads.{sequence_reads}
use Rattle.js_grammar.proofs.DeclarationReads.{DeclaratorStops, declarations_read, endings_are, braced_reads, condition_reads}
use Rattle.js_grammar.proofs.ForReads.{for_loop_statement, for_in_statement, for_in_variable_statement}
use Rattle.js_grammar.proofs.Booleans.{or_true}

-- what begins an expression statement begins no other statement
by_expression : (limit : ℕ) (exp : Bool → Level → Parser tree.Expr) (body : Parser (List tree.Stmt)) (statement : Parser tree.Stmt) (s : Option Sign) (x : List Lexeme) → can_begin s ≡ true → is_excluded s ≡ false → reader.statement_by limit exp body statement s x ≡ reader.expressed limit exp body statement x
by_expression limit exp body statement None x e f = refl
by_expression limit exp body statement (Some (Mark p.LeftBrace)) x e f = absurd (cc)
by_expression limit exp body statement (Some (Mark p.Semicolon)) x e f = absurd (cc)
by_expression limit exp body statement (Some (Mark _)) x e f = refl
by_expression limit exp body statement (Some (Word kw.Var)) x e f = absurd (cc)
by_expression limit exp body statement (Some (Word kw.If)) x e f = absurd (cc)
by_expression limit exp body statement (Some (Word kw.Do)) x e f = absurd (cc)
by_expression limit exp body statement (Some (Word kw.While)) x e f = absurd (cc)
by_expression limit exp body statement (Some (Word kw.For)) x e f = absurd (cc)
by_expression limit exp body statement (Some (Word kw.Continue)) x e f = absurd (cc)
by_expression limit exp body statement (Some (Word kw.Break)) x e f = absurd (cc)
by_expression limit exp body statement (Some (Word kw.Return)) x e f = absurd (cc)
by_expression limit exp body statement (Some (Word kw.Throw)) x e f = absurd (cc)
by_expression limit exp body statement (Some (Word kw.Try)) x e f = absurd (cc)
by_expression limit exp body statement (Some (Word kw.Switch)) x e f = absurd (cc)
by_expression limit exp body statement (Some (Word kw.Function)) x e f = absurd (cc)
by_expression limit exp body statement (Some (Word _)) x e f = refl

-- where a statement that nothing goes on with ends, no operand follows a `return`
returns_at_end : {x z : List Lexeme} → End after_all x z → returns x ≡ true
unfolding sees
returns_at_end semicolon = refl
returns_at_end (automatic {z = z} h) = rw h (or_true (sees (Mark p.Semicolon) z))

no_brace : (s : Option Sign) → can_begin s ≡ true → is_right_brace s ≡ false
no_brace None e = refl
no_brace (Some (Mark p.RightBrace)) e = absurd (cc)
no_brace (Some (Mark _)) e = refl
no_brace (Some (Word _)) e = refl

operand_follows : (x : List Lexeme) → same_line x ≡ true → can_begin (sign_at x) ≡ true → returns x ≡ false
unfolding sees
operand_follows [] e f = absurd (cc)
operand_follows (t ∷ ts) e f = rw (not_first (Mark p.Semicolon) (sign_of t.0) refl f, no_brace (sign_of t.0) f, not-true t.1 e) refl

module _ (limit : ℕ) (exp : Bool → Level → Parser tree.Expr) (body : Parser (List tree.Stmt)) (statement : Parser tree.Stmt) (Exp : Bool → Level → Bool → Phrase tree.Expr) (Body : Phrase (List tree.Stmt)) (Stm : Phrase tree.Stmt) (bound : ℕ) (inner : Inner limit exp body Exp Body bound) (stm : InnerStatements limit statement Stm bound) where
  -- an expression and the end of the statement
  expression_ends : {B : Type 0} (g : Bool) {x y z : List Lexeme} {a : tree.Expr} (f : tree.Expr → Unit {0} → Parser B) (r : Outcome B) → Sequence Exp Body true g x y a → End (after_expression g) y z → length x < suc bound → Fits limit a → f a tt z ≡ r → and_then (reader.expression limit exp body statement x) (λ b i. and_then (ended reader.read_expression i) (f b)) ≡ r
  expression_ends g {x} {y} {z} {a} f r h e lt t k =
      then_reads _ (sequence_reads limit exp body Exp Body bound inner true g x y a h lt t (end_stops e)) (then_reads _ (end_reads e) k)

  -- no declarator ends so that nothing goes on with it
  never : {inn : Bool} {e : Ending} {x z : List Lexeme} {d : Declarator} → Declaration Exp Body Stm inn e x z d → e ≡ after_all → ⊥
  never bare e = absurd (cc)
  never (initialised h) e = absurd (cc)

  declarations_stop : (e : Ending) {x y z : List Lexeme} {found : List Declarator} → Separated (Declaration Exp Body Stm true) e x y found → End e y z → DeclaratorStops true e y × (sees (Mark p.Comma) y ≡ false)
  unfolding sees
  declarations_stop (after_expression g) d h = let s = end_stops h in ((s.0, s.1, s.2), s.3)
  declarations_stop after_name d h = name_stops h
  declarations_stop after_all (only h) e = absurd (never h refl)
  declarations_stop after_all (further d h) e = absurd (never h refl)

  case_reads : (x z : List Lexeme) (c : Clause) → Case Exp Body Stm x z c → length x < bound → ClauseFits limit c → has_more_in_clause z ≡ false → reader.clause limit exp body statement x ≡ Some (c, z)
  unfolding reader.clause reader.case reader.default expect sees
  case_reads x z c (case {g = g} {k = k} {x = x'} {y = y} {a = a} {found = found} h i) lt f s =
      let a1 = sequence_shorter Exp Body inner.shorter inner.body_shorter h in
      then_reads _ (sequence_reads limit exp body Exp Body bound inner true g x' (mark p.Colon k ∷ y) a h (omega arith) f.0 ((λ e. (refl, refl)), refl, refl, refl))
      (then_reads _ (many_reads Stm statement has_more_in_clause (StatementFits limit) (λ z. Unit {0}) bound (λ x z s h l f k. stm.reads x z s h l f) stm.shorter (λ x z s h. more_in_clause x z (stm.shorter x z s h) (stm.begins x z s h)) (λ x z s h. tt) i (omega arith) (statements_fit limit found f.1) tt s) refl)
  case_reads x z c (default {found = found} h) lt f s =
      then_reads _ (many_reads Stm statement has_more_in_clause (StatementFits limit) (λ z. Unit {0}) bound (λ x z s h l f k. stm.reads x z s h l f) stm.shorter (λ x z s h. more_in_clause x z (stm.shorter x z s h) (stm.begins x z s h)) (λ x z s h. tt) h (omega arith) (statements_fit limit found f.1) tt s) refl

  case_goes : (x z : List Lexeme) (c : Clause) → Case Exp Body Stm x z c → has_more x ≡ true
  case_goes x z c (case h i) = refl
  case_goes x z c (default h) = refl

  case_stops : (x z : List Lexeme) (c : Clause) → Case Exp Body Stm x z c → has_more_in_clause x ≡ false
  case_stops x z c (case h i) = refl
  case_stops x z c (default h) = refl

  pub statement_reads : (x z : List Lexeme) (s : tree.Stmt) → Statement Exp Body Stm x z s → length x < suc bound → StatementFits limit s → reader.any_statement limit exp body statement x ≡ Some (s, z)
  unfolding reader.any_statement reader.block reader.variables reader.expressed reader.conditional reader.do_while reader.while reader.ended_as reader.return reader.returned reader.throw reader.thrown reader.tried reader.caught reader.finally reader.switch reader.switched expect eat taken sees
  statement_reads x z s (block {found = found} (braced h)) lt f =
      then_reads _ (braced_reads limit exp body statement Exp Body Stm bound inner stm (braced h) lt (omega arith)) (kept limit (stmt_height (tree.block (stmts_of found))) (tree.block (stmts_of found)) z f)
  statement_reads x z s (variable {e = e} {x = x'} {y = y} {found = found} h i) lt f =
      let stops = declarations_stop e h i in
      then_reads _ (declarations_read limit exp body statement Exp Body Stm bound inner stm true h (omega arith) (omega arith) stops.0 stops.1)
      (rw (endings_are Exp Body Stm true h)
      (then_reads _ (end_reads i) (kept limit (stmt_height (tree.var (declarators_of found))) (tree.var (declarators_of found)) z f)))
  statement_reads x z s empty lt f = refl
  statement_reads x z s (expressed {g = g} {a = a} n h e) lt f =
      by_expression limit exp body statement (sign_at x) x (sequence_begins Exp Body h) n
      ∙ expression_ends g _ (Some (tree.expr a, z)) h e lt (omega arith) (kept limit (stmt_height (tree.expr a)) (tree.expr a) z f)
  statement_reads x z s (conditional {g = g} {k = k} {j = j} {x = x'} {y = y} {a = a} {s = t} h i n) lt f =
      let a1 = sequence_shorter Exp Body inner.shorter inner.body_shorter h in
      let first : stmts_height (body_of t) + 1 ≤ limit = omega arith in
      then_reads _ (condition_reads limit exp body statement Exp Body Stm bound inner stm g k j h (omega arith) (omega arith))
      (then_reads _ (stm.reads y z t i (omega arith) (body_fits limit t first))
      (rw n (kept limit (stmt_height (tree.if_else a (body_of t) no_body)) (tree.if_else a (body_of t) no_body) z f)))
  statement_reads x z s (alternative {g = g} {k = k} {j = j} {i = i} {x = x'} {y = y} {v = v} {a = a} {s = t} {t = u} h m n) lt f =
      let a1 = sequence_shorter Exp Body inner.shorter inner.body_shorter h in
      let a2 = stm.shorter y (word kw.Else i ∷ v) t m in
      let first : stmts_height (body_of t) + 1 ≤ limit = omega arith in
      let second : stmts_height (body_of u) + 1 ≤ limit = omega arith in
      then_reads _ (condition_reads limit exp body statement Exp Body Stm bound inner stm g k j h (omega arith) (omega arith))
      (then_reads _ (stm.reads y (word kw.Else i ∷ v) t m (omega arith) (body_fits limit t first))
      (then_reads _ (stm.reads v z u n (omega arith) (body_fits limit u second))
      (kept limit (stmt_height (tree.if_else a (body_of t) (one_body (body_of u)))) (tree.if_else a (body_of t) (one_body (body_of u))) z f)))
  statement_reads x z s (do_while {g = g} {k = k} {j = j} {i = i} {x = x'} {y = y} {v = v} {a = a} {s = t} h m e) lt f =
      let a1 = stm.shorter x' (word kw.While k ∷ mark p.LeftParenthesis j ∷ y) t h in
      let first : stmts_height (body_of t) + 1 ≤ limit = omega arith in
      then_reads _ (stm.reads x' (word kw.While k ∷ mark p.LeftParenthesis j ∷ y) t h (omega arith) (body_fits limit t first))
      (then_reads _ (condition_reads limit exp body statement Exp Body Stm bound inner stm g j i m (omega arith) (omega arith))
      (then_reads _ (end_reads e)
      (kept limit (stmt_height (tree.do_while (body_of t) a)) (tree.do_while (body_of t) a) z f)))
  statement_reads x z s (while {g = g} {k = k} {j = j} {x = x'} {y = y} {a = a} {s = t} h i) lt f =
      let a1 = sequence_shorter Exp Body inner.shorter inner.body_shorter h in
      let first : stmts_height (body_of t) + 1 ≤ limit = omega arith in
      then_reads _ (condition_reads limit exp body statement Exp Body Stm bound inner stm g k j h (omega arith) (omega arith))
      (then_reads _ (stm.reads y z t i (omega arith) (body_fits limit t first))
      (kept limit (stmt_height (tree.while a (body_of t))) (tree.while a (body_of t)) z f))
  statement_reads x z s (for_loop {k = k} {j = j} {i = i} {h = h} m n o q) lt f =
      for_loop_statement limit exp body statement Exp Body Stm bound inner stm k i j h m n o q (omega arith) f
  statement_reads x z s (for_in {g = g} {k = k} {j = j} {i = i} h m n) lt f =
      for_in_statement limit exp body statement Exp Body Stm bound inner stm g k j i h m n (omega arith) f
  statement_reads x z s (for_in_variable {g = g} {k = k} {j = j} {i = i} {h = h} {m = m} {w = w} n o) lt f =
      for_in_variable_statement limit exp body statement Exp Body Stm bound inner stm g k j i h m w n o (omega arith) f
  statement_reads x z s (continue e) lt f = then_reads _ (end_reads e) refl
  statement_reads x z s (break e) lt f = then_reads _ (end_reads e) refl
  statement_reads x z s (return e) lt f = rw (returns_at_end e) (then_reads _ (end_reads e) refl)
  statement_reads x z s (return_value {g = g} {x = x'} {a = a} n h e) lt f =
      rw (operand_follows x' n (sequence_begins Exp Body h))
      (expression_ends g _ (Some (tree.return (tree.one_expr a), z)) h e (omega arith) (omega arith) (kept limit (stmt_height (tree.return (tree.one_expr a))) (tree.return (tree.one_expr a)) z f))
  statement_reads x z s (throw {g = g} {a = a} n h e) lt f =
      rw n (expression_ends g _ (Some (tree.throw a, z)) h e (omega arith) (omega arith) (kept limit (stmt_height (tree.throw a)) (tree.throw a) z f))
  statement_reads x z s (try_catch {w = w} {b = b} {c = c} h i n) lt f =
      let a1 = braced_shorter Exp Body Stm inner.shorter inner.body_shorter stm.shorter h in
      then_reads _ (braced_reads limit exp body statement Exp Body Stm bound inner stm h (omega arith) (omega arith))
      (then_reads _ (braced_reads limit exp body statement Exp Body Stm bound inner stm i (omega arith) (omega arith))
      (rw n (kept limit (stmt_height (tree.try (stmts_of b) (one_catch w (stmts_of c)) no_body)) (tree.try (stmts_of b) (one_catch w (stmts_of c)) no_body) z f)))
  statement_reads x z s (try_finally {b = b} {d = d} h i) lt f =
      let a1 = braced_shorter Exp Body Stm inner.shorter inner.body_shorter stm.shorter h in
      then_reads _ (braced_reads limit exp body statement Exp Body Stm bound inner stm h (omega arith) (omega arith))
      (then_reads _ (braced_reads limit exp body statement Exp Body Stm bound inner stm i (omega arith) (omega arith))
      (kept limit (stmt_height (tree.try (stmts_of b) no_catch (one_body (stmts_of d)))) (tree.try (stmts_of b) no_catch (one_body (stmts_of d))) z f))
  statement_reads x z s (try_both {w = w} {b = b} {c = c} {d = d} h i n) lt f =
      let a1 = braced_shorter Exp Body Stm inner.shorter inner.body_shorter stm.shorter h in
      let a2 = braced_shorter Exp Body Stm inner.shorter inner.body_shorter stm.shorter i in
      then_reads _ (braced_reads limit exp body statement Exp Body Stm bound inner stm h (omega arith) (omega arith))
      (then_reads _ (braced_reads limit exp body statement Exp Body Stm bound inner stm i (omega arith) (omega arith))
      (then_reads _ (braced_reads limit exp body statement Exp Body Stm bound inner stm n (omega arith) (omega arith))
      (kept limit (stmt_height (tree.try (stmts_of b) (one_catch w (stmts_of c)) (one_body (stmts_of d)))) (tree.try (stmts_of b) (one_catch w (stmts_of c)) (one_body (stmts_of d))) z f)))
  statement_reads x z s (switch {g = g} {k = k} {j = j} {i = i} {a = a} {found = found} h m n) lt f =
      let a1 = sequence_shorter Exp Body inner.shorter inner.body_shorter h in
      then_reads _ (condition_reads limit exp body statement Exp Body Stm bound inner stm g k j h (omega arith) (omega arith))
      (then_reads _ (many_reads (Case Exp Body Stm) (reader.clause limit exp body statement) has_more (ClauseFits limit) (λ z. has_more_in_clause z ≡ false) bound case_reads (case_shorter Exp Body Stm inner.shorter inner.body_shorter stm.shorter) case_goes case_stops m (omega arith) (clauses_fit limit found (omega arith)) refl refl)
      (rw n (kept limit (stmt_height (tree.switch a (cases_from found))) (tree.switch a (cases_from found)) z f)))

  -- ---- source elements

  by_statement : (x z : List Lexeme) (s : tree.Stmt) → reader.any_statement limit exp body statement x ≡ Some (s, z) → (o : Option Sign) → sign_at x ≡ o → reader.element_by limit exp body statement o x ≡ Some (s, z)
  unfolding reader.any_statement
  by_statement x z s e (Some (Word kw.Function)) i =
      let none : reader.statement_by limit exp body statement (Some (Word kw.Function)) x ≡ Some (s, z) = subst (λ o. reader.statement_by limit exp body statement o x ≡ Some (s, z)) i e in
      absurd (nothing none)
    where
      nothing : ◌≡◌ {A = Outcome tree.Stmt} None (Some (s, z)) → ⊥
      nothing e = absurd (cc)
  by_statement x z s e (Some (Word _)) i = e
  by_statement x z s e (Some (Mark _)) i = e
  by_statement x z s e None i = e

  element_reads : (x z : List Lexeme) (s : tree.Stmt) → Element Exp Body Stm x z s → length x < suc bound → StatementFits limit s → reader.element limit exp body statement x ≡ Some (s, z)
  unfolding reader.element reader.function taken
  element_reads x z s (is_statement h) lt f = by_statement x z s (statement_reads x z s h lt f) (sign_at x) refl
  element_reads x z s (declaration {c = c} h) lt f =
      then_reads _ (procedure_reads limit exp body Exp Body bound inner h (omega arith) (omega arith)) (kept limit (stmt_height (tree.function c)) (tree.function c) z f)

  pub elements_read : {x z : List Lexeme} {found : List tree.Stmt} → Elements Exp Body Stm x z found → length x < suc bound → stmts_height (stmts_of found) ≤ limit → has_more z ≡ false → reader.elements limit exp body statement x ≡ Some (found, z)
  unfolding reader.elements
  elements_read {found = found} h lt f e =
      many_reads (Element Exp Body Stm) (reader.element limit exp body statement) has_more (StatementFits limit) (λ z. Unit {0}) (suc bound) (λ x z s h l f k. element_reads x z s h l f) (element_shorter Exp Body Stm inner.shorter inner.body_shorter stm.shorter) (λ x z s h. more_at x z (element_shorter Exp Body Stm inner.shorter inner.body_shorter stm.shorter x z s h) (element_begins Exp Body Stm x z s h)) (λ x z s h. tt) h lt (statements_fit limit found f) tt e
