-- What is read as a statement or source element is one in the grammar.
use Rattle.std.proofs.Common.{◌≡◌, ℕ, Bool, true, false, List, [], ◌∷◌, Option, Some, None, refl, sym, subst, ap, ◌∙◌}
use Rattle.std.specs.Prelude.{not, ◌||◌, ◌&&◌}
use Rattle.js_core.specs.Tree as tree
use Rattle.js_core.specs.Tree.{stmts_of, no_body, one_body, no_catch, one_catch}
use Rattle.js_core.specs.Views.{declarators_of}
use Rattle.js_core.specs.Height.{stmt_height}
use Rattle.js_core.specs.declared.token.Punct.TheVariants as p
use Rattle.js_core.specs.declared.keyword.Keyword.TheVariants as kw
use Rattle.js_grammar.specs.declared.sign.Sign.{Sign}
use Rattle.js_grammar.specs.declared.sign.Sign.TheVariants.{Mark, Word}
use Rattle.js_grammar.specs.Symbols.{sign, identifier, Lexeme, sign_of, sign_at, is_sign}
use Rattle.js_grammar.specs.Operators.{Level}
use Rattle.js_grammar.specs.Parser.{Parser, Outcome, and_then, tail, sees}
use Rattle.js_grammar.specs.Phrases.{Phrase, mark, word, Many}
use Rattle.js_grammar.specs.Expressions.{Sequence}
use Rattle.js_grammar.specs.Endings.{after_expression, after_all, is_right_brace, same_line, is_excluded}
use Rattle.js_grammar.specs.Statements.{body_of, cases_from, has_one_default, End, Braced, Case, case, default, Statement, block, variable, empty, expressed, conditional, alternative, do_while, while, continue, break, return, return_value, throw, try_catch, try_finally, try_both, switch, Element, is_statement, declaration, Elements}
use Rattle.js_grammar.specs.StatementReader as reader
use Rattle.js_grammar.specs.StatementReader.{ended, read_expression, has_more, has_more_in_clause, returns}
use Rattle.js_grammar.proofs.Heights.{Each}
use Rattle.js_grammar.proofs.StatementHeights.{StatementFits}
use Rattle.js_grammar.proofs.StatementShapes.{case_shorter, element_shorter}
use Rattle.js_grammar.proofs.Holds.{Holds, ok, err, then_holds, either_holds, held, signed, expect_holds, eat_holds, limit_holds}
use Rattle.js_grammar.proofs.ListsHold.{many_holds}
use Rattle.js_grammar.proofs.Sound.{Sound}
use Rattle.js_grammar.proofs.SoundStatements.{SoundStatements}
use Rattle.js_grammar.proofs.PrimarySound.{name_is, name_holds, procedure_holds}
use Rattle.js_grammar.proofs.ExpressionSound.{all_holds}
use Rattle.js_grammar.proofs.DeclarationReads.{endings_are}
use Rattle.js_grammar.proofs.EndsHold.{end_holds}
use Rattle.js_grammar.proofs.DeclarationsHold.{declarations_hold, braced_holds, condition_holds}
use Rattle.js_grammar.proofs.ForSound.{for_holds}

-- where no statement ends that nothing goes on with, no line ends
in_line : (x : List Lexeme) → returns x ≡ false → same_line x ≡ true
unfolding sees
in_line [] e = absurd (or_not (sees (Mark p.Semicolon) []) e)
  where
    or_not : (b : Bool) → b || true ≡ false → ⊥
    or_not true e = absurd (cc)
    or_not false e = absurd (cc)
in_line (t ∷ ts) e = by t.1 (is_sign (Mark p.Semicolon) (sign_of t.0)) (is_right_brace (sign_of t.0)) e
  where
    by : (l semicolon brace : Bool) → semicolon || (brace || (l && not (semicolon || false))) ≡ false → not l ≡ true
    by false semicolon brace e = refl
    by true true brace e = absurd (cc)
    by true false true e = absurd (cc)
    by true false false e = absurd (cc)

module _ (limit : ℕ) (exp : Bool → Level → Parser tree.Expr) (body : Parser (List tree.Stmt)) (statement : Parser tree.Stmt) (Exp : Bool → Level → Bool → Phrase tree.Expr) (Body : Phrase (List tree.Stmt)) (Stm : Phrase tree.Stmt) (inner : Sound limit exp body Exp Body) (stm : SoundStatements limit statement Stm) where
  -- a statement that fits
  abbrev pub Fitting : List Lexeme → tree.Stmt → List Lexeme → Type 0
  Fitting x s z = Statement Exp Body Stm x z s × StatementFits limit s

  block_holds : (x : List Lexeme) → Holds (Fitting x) (reader.block limit exp body statement x)
  unfolding reader.block
  block_holds x =
      then_holds _ (braced_holds limit exp body statement Exp Body Stm inner stm x) (λ found z h.
      limit_holds (Fitting x) limit (stmt_height (tree.block (stmts_of found))) (tree.block (stmts_of found)) z (λ le. (block h, le)))

  variables_hold : (l : Bool) (x : List Lexeme) → Holds (Fitting (word kw.Var l ∷ x)) (reader.variables limit exp body statement x)
  unfolding reader.variables
  variables_hold l x =
      then_holds _ (declarations_hold limit exp body statement Exp Body Stm inner stm true x) (λ found y h.
      then_holds _ (subst (λ e. Holds (λ u z. End h.0 y z) (ended e y)) (sym (endings_are Exp Body Stm true h.1)) (end_holds h.0 y h.2)) (λ u z e.
      limit_holds (Fitting (word kw.Var l ∷ x)) limit (stmt_height (tree.var (declarators_of found))) (tree.var (declarators_of found)) z (λ le. (variable h.1 e, le))))

  -- an expression and the end of the statement
  ended_holds : (x : List Lexeme) (P : tree.Stmt → List Lexeme → Type 0) (make : tree.Expr → tree.Stmt) → ((g : Bool) (y z : List Lexeme) (a : tree.Expr) → Sequence Exp Body true g x y a → End (after_expression g) y z → P (make a) z) → Holds (λ s z. P s z × StatementFits limit s) (and_then (reader.expression limit exp body statement x) (λ a i. and_then (ended read_expression i) (λ u. reader.node limit (make a))))
  ended_holds x P make k =
      then_holds _ (all_holds limit exp body Exp Body inner true x) (λ a y h.
      then_holds _ (end_holds (after_expression h.0) y h.3) (λ u z e.
      limit_holds (λ s z. P s z × StatementFits limit s) limit (stmt_height (make a)) (make a) z (λ le. (k h.0 y z a h.1 e, le))))

  expressed_holds : (x : List Lexeme) → is_excluded (sign_at x) ≡ false → Holds (Fitting x) (reader.expressed limit exp body statement x)
  unfolding reader.expressed
  expressed_holds x n = ended_holds x (λ s z. Statement Exp Body Stm x z s) tree.expr (λ g y z a h e. expressed n h e)

  conditional_holds : (l : Bool) (x : List Lexeme) → Holds (Fitting (word kw.If l ∷ x)) (reader.conditional limit exp body statement x)
  unfolding reader.conditional sees
  conditional_holds l x =
      then_holds _ (condition_holds limit exp body statement Exp Body Stm inner stm x) (λ a y c.
      then_holds _ (stm.holds y) (λ s v h.
      held (λ t z k. subst (λ q. Fitting (word kw.If l ∷ q) t z) (sym c.2) k)
      (eat_holds {P = Fitting (word kw.If l ∷ mark p.LeftParenthesis c.0 ∷ c.1)} (Word kw.Else) v _
      (λ i e. then_holds _ (stm.holds (tail v)) (λ t z k.
      limit_holds (Fitting (word kw.If l ∷ mark p.LeftParenthesis c.0 ∷ c.1)) limit (stmt_height (tree.if_else a (body_of s) (one_body (body_of t)))) (tree.if_else a (body_of s) (one_body (body_of t))) z
      (λ le. (alternative c.5 (subst (λ q. Stm y q s) e h.0) k.0, le))))
      (λ n. limit_holds (Fitting (word kw.If l ∷ mark p.LeftParenthesis c.0 ∷ c.1)) limit (stmt_height (tree.if_else a (body_of s) no_body)) (tree.if_else a (body_of s) no_body) v
      (λ le. (conditional c.5 h.0 n, le))))))

  do_while_holds : (l : Bool) (x : List Lexeme) → Holds (Fitting (word kw.Do l ∷ x)) (reader.do_while limit exp body statement x)
  unfolding reader.do_while
  do_while_holds l x =
      then_holds _ (stm.holds x) (λ s y h.
      then_holds _ (expect_holds (Word kw.While) y) (λ u v c.
      then_holds _ (condition_holds limit exp body statement Exp Body Stm inner stm v) (λ a w d.
      then_holds _ (end_holds after_all w tt) (λ u z e.
      limit_holds (Fitting (word kw.Do l ∷ x)) limit (stmt_height (tree.do_while (body_of s) a)) (tree.do_while (body_of s) a) z
      (λ le. (do_while (subst (λ q. Stm x q s) (c.1 ∙ ap (λ q. word kw.While c.0 ∷ q) d.2) h.0) d.5 e, le))))))

  while_holds : (l : Bool) (x : List Lexeme) → Holds (Fitting (word kw.While l ∷ x)) (reader.while limit exp body statement x)
  unfolding reader.while
  while_holds l x =
      then_holds _ (condition_holds limit exp body statement Exp Body Stm inner stm x) (λ a y c.
      then_holds _ (stm.holds y) (λ s z h.
      held (λ t z k. subst (λ q. Fitting (word kw.While l ∷ q) t z) (sym c.2) k)
      (limit_holds (Fitting (word kw.While l ∷ mark p.LeftParenthesis c.0 ∷ c.1)) limit (stmt_height (tree.while a (body_of s))) (tree.while a (body_of s)) z
      (λ le. (while c.5 h.0, le)))))

  ended_as_holds : (x y : List Lexeme) (s : tree.Stmt) → StatementFits limit s → ((z : List Lexeme) → End after_all y z → Statement Exp Body Stm x z s) → Holds (Fitting x) (reader.ended_as limit exp body statement s y)
  unfolding reader.ended_as
  ended_as_holds x y s f k = then_holds _ (end_holds after_all y tt) (λ u z e. ok (k z e, f))

  return_holds : (l : Bool) (x : List Lexeme) → Holds (Fitting (word kw.Return l ∷ x)) (reader.return limit exp body statement x)
  unfolding reader.return reader.returned sees
  return_holds l x = by (returns x) refl
    where
      by : (b : Bool) → returns x ≡ b → Holds (Fitting (word kw.Return l ∷ x)) (reader.return_by limit exp body statement b x)
      by true e = ended_as_holds (word kw.Return l ∷ x) x (tree.return tree.no_expr) inner.some (λ z k. return k)
      by false e = ended_holds x (λ s z. Statement Exp Body Stm (word kw.Return l ∷ x) z s) (λ a. tree.return (tree.one_expr a)) (λ g y z a h k. return_value (in_line x e) h k)

  throw_holds : (l : Bool) (x : List Lexeme) → Holds (Fitting (word kw.Throw l ∷ x)) (reader.throw limit exp body statement x)
  unfolding reader.throw reader.thrown
  throw_holds l x =
      either_holds (same_line x)
      (λ n. ended_holds x (λ s z. Statement Exp Body Stm (word kw.Throw l ∷ x) z s) tree.throw (λ g y z a h k. throw n h k))
      (λ n. err)

  tried_holds : (l : Bool) (x : List Lexeme) → Holds (Fitting (word kw.Try l ∷ x)) (reader.tried limit exp body statement x)
  unfolding reader.tried reader.caught reader.finally sees
  tried_holds l x =
      then_holds _ (braced_holds limit exp body statement Exp Body Stm inner stm x) (λ b y h.
      eat_holds (Word kw.Catch) y _
      (λ k e.
      then_holds _ (expect_holds (Mark p.LeftParenthesis) (tail y)) (λ u v c.
      then_holds _ (name_holds v) (λ w t n.
      then_holds _ (expect_holds (Mark p.RightParenthesis) t) (λ u q d.
      let i = name_is v t w n in
      let first = subst (λ r. Braced Exp Body Stm x r b) (e ∙ ap (λ r. word kw.Catch k ∷ r) (c.1 ∙ ap (λ r. mark p.LeftParenthesis c.0 ∷ r) (i.1 ∙ ap (λ r. (identifier w, i.0) ∷ r) d.1))) h in
      then_holds _ (braced_holds limit exp body statement Exp Body Stm inner stm q) (λ m o j.
      eat_holds (Word kw.Finally) o _
      (λ f g. then_holds _ (braced_holds limit exp body statement Exp Body Stm inner stm (tail o)) (λ a z r.
      limit_holds (Fitting (word kw.Try l ∷ x)) limit (stmt_height (tree.try (stmts_of b) (one_catch w (stmts_of m)) (one_body (stmts_of a)))) (tree.try (stmts_of b) (one_catch w (stmts_of m)) (one_body (stmts_of a))) z
      (λ le. (try_both first (subst (λ r. Braced Exp Body Stm q r m) g j) r, le))))
      (λ f. limit_holds (Fitting (word kw.Try l ∷ x)) limit (stmt_height (tree.try (stmts_of b) (one_catch w (stmts_of m)) no_body)) (tree.try (stmts_of b) (one_catch w (stmts_of m)) no_body) o
      (λ le. (try_catch first j f, le))))))))
      (λ e.
      then_holds _ (expect_holds (Word kw.Finally) y) (λ u v c.
      then_holds _ (braced_holds limit exp body statement Exp Body Stm inner stm v) (λ a z r.
      limit_holds (Fitting (word kw.Try l ∷ x)) limit (stmt_height (tree.try (stmts_of b) no_catch (one_body (stmts_of a)))) (tree.try (stmts_of b) no_catch (one_body (stmts_of a))) z
      (λ le. (try_finally (subst (λ r. Braced Exp Body Stm x r b) c.1 h) r, le))))))

  case_holds : (x : List Lexeme) → Holds (λ c z. Case Exp Body Stm x z c × Unit {0}) (reader.clause limit exp body statement x)
  unfolding reader.clause reader.case reader.default
  case_holds x = by_sign (sign_at x) refl
    where
      by_sign : (o : Option Sign) → sign_at x ≡ o → Holds (λ c z. Case Exp Body Stm x z c × Unit {0}) (reader.clause_by limit exp body statement o x)
      by_sign (Some (Word kw.Case)) i =
          let c = signed x (Word kw.Case) i in
          then_holds _ (all_holds limit exp body Exp Body inner true (tail x)) (λ a y h.
          then_holds _ (expect_holds (Mark p.Colon) y) (λ u v d.
          then_holds _ (many_holds Stm statement has_more_in_clause (StatementFits limit) (λ x e. stm.holds x) stm.shorter v) (λ found z k.
          ok (subst (λ q. Case Exp Body Stm q z (Some a, found)) (sym c.1) (case (subst (λ q. Sequence Exp Body true h.0 (tail x) q a) d.1 h.1) k.0), tt))))
      by_sign (Some (Word kw.Default)) i =
          let c = signed x (Word kw.Default) i in
          then_holds _ (expect_holds (Mark p.Colon) (tail x)) (λ u v d.
          then_holds _ (many_holds Stm statement has_more_in_clause (StatementFits limit) (λ x e. stm.holds x) stm.shorter v) (λ found z k.
          ok (subst (λ q. Case Exp Body Stm q z (None, found)) (sym (c.1 ∙ ap (λ q. word kw.Default c.0 ∷ q) d.1)) (default k.0), tt)))
      by_sign (Some (Word _)) i = err
      by_sign (Some (Mark _)) i = err
      by_sign None i = err

  switch_holds : (l : Bool) (x : List Lexeme) → Holds (Fitting (word kw.Switch l ∷ x)) (reader.switch limit exp body statement x)
  unfolding reader.switch reader.switched
  switch_holds l x =
      then_holds _ (condition_holds limit exp body statement Exp Body Stm inner stm x) (λ a y c.
      then_holds _ (expect_holds (Mark p.LeftBrace) y) (λ u v d.
      then_holds _ (many_holds (Case Exp Body Stm) (reader.clause limit exp body statement) has_more (λ c. Unit {0}) (λ x e. case_holds x) (case_shorter Exp Body Stm inner.shorter inner.body_shorter stm.shorter) v) (λ found w h.
      then_holds _ (expect_holds (Mark p.RightBrace) w) (λ u z e.
      held (λ t z k. subst (λ q. Fitting (word kw.Switch l ∷ q) t z) (sym c.2) k)
      (either_holds {P = Fitting (word kw.Switch l ∷ mark p.LeftParenthesis c.0 ∷ c.1)} (has_one_default found)
      (λ n. limit_holds (Fitting (word kw.Switch l ∷ mark p.LeftParenthesis c.0 ∷ c.1)) limit (stmt_height (tree.switch a (cases_from found))) (tree.switch a (cases_from found)) z
      (λ le. (switch (subst (λ q. Sequence Exp Body true c.3 c.1 (mark p.RightParenthesis c.4 ∷ q) a) d.1 c.5) (subst (λ q. Many (Case Exp Body Stm) v q found) e.1 h.0) n, le)))
      (λ n. err))))))

  pub statement_holds : (x : List Lexeme) → Holds (Fitting x) (reader.any_statement limit exp body statement x)
  unfolding reader.any_statement
  statement_holds x = by_sign (sign_at x) refl
    where
      plainly : (o : Option Sign) → sign_at x ≡ o → is_excluded o ≡ false → Holds (Fitting x) (reader.expressed limit exp body statement x)
      plainly o i n = expressed_holds x (subst (λ q. is_excluded q ≡ false) (sym i) n)

      behind : (m : Sign) (r : Outcome tree.Stmt) → sign_at x ≡ Some m → ((l : Bool) → Holds (Fitting ((sign m, l) ∷ tail x)) r) → Holds (Fitting x) r
      behind m r i k = let c = signed x m i in held (λ s z h. subst (λ v. Fitting v s z) (sym c.1) h) (k c.0)

      by_sign : (o : Option Sign) → sign_at x ≡ o → Holds (Fitting x) (reader.statement_by limit exp body statement o x)
      by_sign None i = plainly None i refl
      by_sign (Some (Mark p.LeftBrace)) i = block_holds x
      by_sign (Some (Mark p.Semicolon)) i = behind (Mark p.Semicolon) _ i (λ l. ok (empty, inner.some))
      by_sign (Some (Word kw.Var)) i = behind (Word kw.Var) _ i (λ l. variables_hold l (tail x))
      by_sign (Some (Word kw.If)) i = behind (Word kw.If) _ i (λ l. conditional_holds l (tail x))
      by_sign (Some (Word kw.Do)) i = behind (Word kw.Do) _ i (λ l. do_while_holds l (tail x))
      by_sign (Some (Word kw.While)) i = behind (Word kw.While) _ i (λ l. while_holds l (tail x))
      by_sign (Some (Word kw.For)) i = behind (Word kw.For) _ i (λ l. for_holds limit exp body statement Exp Body Stm inner stm l (tail x))
      by_sign (Some (Word kw.Continue)) i = behind (Word kw.Continue) _ i (λ l. ended_as_holds (word kw.Continue l ∷ tail x) (tail x) tree.continue inner.some (λ z e. continue e))
      by_sign (Some (Word kw.Break)) i = behind (Word kw.Break) _ i (λ l. ended_as_holds (word kw.Break l ∷ tail x) (tail x) tree.break inner.some (λ z e. break e))
      by_sign (Some (Word kw.Return)) i = behind (Word kw.Return) _ i (λ l. return_holds l (tail x))
      by_sign (Some (Word kw.Throw)) i = behind (Word kw.Throw) _ i (λ l. throw_holds l (tail x))
      by_sign (Some (Word kw.Try)) i = behind (Word kw.Try) _ i (λ l. tried_holds l (tail x))
      by_sign (Some (Word kw.Switch)) i = behind (Word kw.Switch) _ i (λ l. switch_holds l (tail x))
      by_sign (Some (Word kw.Function)) i = err
      by_sign (Some (Mark m)) i = plainly (Some (Mark m)) i refl
      by_sign (Some (Word m)) i = plainly (Some (Word m)) i refl

  -- ---- source elements

  declaration_holds : (l : Bool) (x : List Lexeme) → Holds (λ s z. Element Exp Body Stm (word kw.Function l ∷ x) z s × StatementFits limit s) (reader.function limit exp body statement x)
  unfolding reader.function
  declaration_holds l x =
      then_holds _ (name_holds x) (λ w y h.
      then_holds _ (procedure_holds limit exp body Exp Body inner (Some w) y) (λ c z k.
      limit_holds (λ s z. Element Exp Body Stm (word kw.Function l ∷ x) z s × StatementFits limit s) limit (stmt_height (tree.function c)) (tree.function c) z
      (λ le. let n = name_is x y w h in (subst (λ q. Element Exp Body Stm (word kw.Function l ∷ q) z (tree.function c)) (sym n.1) (declaration k), le))))

  element_holds : (x : List Lexeme) → Holds (λ s z. Element Exp Body Stm x z s × StatementFits limit s) (reader.element limit exp body statement x)
  unfolding reader.element
  element_holds x = by_sign (sign_at x) refl
    where
      plainly : Holds (λ s z. Element Exp Body Stm x z s × StatementFits limit s) (reader.any_statement limit exp body statement x)
      plainly = held (λ s z h. (is_statement h.0, h.1)) (statement_holds x)

      by_sign : (o : Option Sign) → sign_at x ≡ o → Holds (λ s z. Element Exp Body Stm x z s × StatementFits limit s) (reader.element_by limit exp body statement o x)
      by_sign (Some (Word kw.Function)) i =
          let c = signed x (Word kw.Function) i in
          held (λ s z h. subst (λ q. Element Exp Body Stm q z s × StatementFits limit s) (sym c.1) h) (declaration_holds c.0 (tail x))
      by_sign (Some (Word _)) i = plainly
      by_sign (Some (Mark _)) i = plainly
      by_sign None i = plainly

  pub elements_hold : (x : List Lexeme) → Holds (λ found z. Elements Exp Body Stm x z found × Each (StatementFits limit) found) (reader.elements limit exp body statement x)
  unfolding reader.elements
  elements_hold x =
      held (λ found z h. (h.0, h.1))
      (many_holds (Element Exp Body Stm) (reader.element limit exp body statement) has_more (StatementFits limit) (λ x e. element_holds x) (element_shorter Exp Body Stm inner.shorter inner.body_shorter stm.shorter) x)
