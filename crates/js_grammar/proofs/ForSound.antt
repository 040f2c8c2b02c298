-- What is read as a `for` is one in the grammar.
use Rattle.std.proofs.Common.{◌≡◌, ℕ, Bool, true, false, List, [], ◌∷◌, Option, Some, None, refl, sym, subst}
use Rattle.js_core.specs.Tree as tree
use Rattle.js_core.specs.Tree.{maybe_expr, init_expr, init_var, no_init}
use Rattle.js_core.specs.Views.{declarators_of}
use Rattle.js_core.specs.Height.{stmt_height}
use Rattle.js_core.specs.declared.syntax.Declarator.{Declarator}
use Rattle.js_core.specs.declared.token.Punct.TheVariants as p
use Rattle.js_core.specs.declared.keyword.Keyword.TheVariants as kw
use Rattle.js_grammar.specs.declared.sign.Sign.{Sign}
use Rattle.js_grammar.specs.declared.sign.Sign.TheVariants.{Mark, Word}
use Rattle.js_grammar.specs.Symbols.{Lexeme, sign_at}
use Rattle.js_grammar.specs.Operators.{Level, Prefix, prefix_of}
use Rattle.js_grammar.specs.Parser.{Parser, tail}
use Rattle.js_grammar.specs.Phrases.{Phrase, mark, word, Separated}
use Rattle.js_grammar.specs.Expressions.{LeftHandSide, Sequence}
use Rattle.js_grammar.specs.Endings.{Ending}
use Rattle.js_grammar.specs.Statements.{body_of, Declaration, Maybe, Init, nothing, variables, expression, Statement, for_loop, for_in, for_in_variable}
use Rattle.js_grammar.specs.StatementReader as reader
use Rattle.js_grammar.proofs.StatementHeights.{StatementFits}
use Rattle.js_grammar.proofs.Holds.{Holds, err, then_holds, held, signed, expect_holds, eat_holds, limit_holds}
use Rattle.js_grammar.proofs.Sound.{Sound}
use Rattle.js_grammar.proofs.SoundStatements.{SoundStatements}
use Rattle.js_grammar.proofs.LeftSound.{left_holds}
use Rattle.js_grammar.proofs.ExpressionSound.{assigned_holds, all_holds, all_from_holds}
use Rattle.js_grammar.proofs.DeclarationsHold.{single, bare_name, declarations_hold, maybe_holds}

module _ (limit : ℕ) (exp : Bool → Level → Parser tree.Expr) (body : Parser (List tree.Stmt)) (statement : Parser tree.Stmt) (Exp : Bool → Level → Bool → Phrase tree.Expr) (Body : Phrase (List tree.Stmt)) (Stm : Phrase tree.Stmt) (inner : Sound limit exp body Exp Body) (stm : SoundStatements limit statement Stm) where
  abbrev For : Bool → Bool → List Lexeme → tree.Stmt → List Lexeme → Type 0
  For l k x s z = Statement Exp Body Stm (word kw.For l ∷ mark p.LeftParenthesis k ∷ x) z s × StatementFits limit s

  for_loop_holds : (l k : Bool) (x y : List Lexeme) (init : tree.ForInit) → Init Exp Body Stm x y init → Holds (For l k x) (reader.for_loop limit exp body statement init y)
  unfolding reader.for_loop
  for_loop_holds l k x y init h =
      then_holds _ (expect_holds (Mark p.Semicolon) y) (λ u v c.
      then_holds _ (maybe_holds limit exp body statement Exp Body Stm inner stm p.Semicolon v) (λ test w i.
      then_holds _ (expect_holds (Mark p.Semicolon) w) (λ u t d.
      then_holds _ (maybe_holds limit exp body statement Exp Body Stm inner stm p.RightParenthesis t) (λ next o j.
      then_holds _ (expect_holds (Mark p.RightParenthesis) o) (λ u q e.
      then_holds _ (stm.holds q) (λ s z m.
      limit_holds (For l k x) limit (stmt_height (tree.for init (maybe_expr test) (maybe_expr next) (body_of s))) (tree.for init (maybe_expr test) (maybe_expr next) (body_of s)) z
      (λ le. (for_loop (subst (λ r. Init Exp Body Stm x r init) c.1 h) (subst (λ r. Maybe Exp Body Stm v r test) d.1 i) (subst (λ r. Maybe Exp Body Stm t r next) e.1 j) m.0, le))))))))

  -- the part of a `for` behind its `in`
  for_in_holds : (declared : Bool) (target : tree.Expr) (y : List Lexeme) (P : tree.Stmt → List Lexeme → Type 0) → ((g i : Bool) (v z : List Lexeme) (o : tree.Expr) (s : tree.Stmt) → Sequence Exp Body true g y (mark p.RightParenthesis i ∷ v) o → Stm v z s → P (tree.for_in declared target o (body_of s)) z) → Holds (λ s z. P s z × StatementFits limit s) (reader.for_in limit exp body statement declared target y)
  unfolding reader.for_in
  for_in_holds declared target y P k =
      then_holds _ (all_holds limit exp body Exp Body inner true y) (λ o v h.
      then_holds _ (expect_holds (Mark p.RightParenthesis) v) (λ u w c.
      then_holds _ (stm.holds w) (λ s z m.
      limit_holds (λ s z. P s z × StatementFits limit s) limit (stmt_height (tree.for_in declared target o (body_of s))) (tree.for_in declared target o (body_of s)) z
      (λ le. (k h.0 c.0 w z o s (subst (λ q. Sequence Exp Body true h.0 y q o) c.1 h.1) m.0, le)))))

  declared_holds : (l k j i : Bool) (e : Ending) (x y : List Lexeme) (found : List Declarator) → Separated (Declaration Exp Body Stm false) e x (word kw.In i ∷ y) found → Holds (For l k (word kw.Var j ∷ x)) (reader.for_in_declared limit exp body statement found y)
  declared_holds l k j i e x y [] h = err
  declared_holds l k j i e x y (d ∷ []) h = by d.value refl
    where
      by : (o : Option tree.Expr) → d.value ≡ o → Holds (For l k (word kw.Var j ∷ x)) (reader.for_in_by limit exp body statement o d.name y)
      by None n =
          let c = bare_name Exp Body Stm (single (Declaration Exp Body Stm false) d h refl) n in
          for_in_holds true (tree.name d.name) y (λ s z. Statement Exp Body Stm (word kw.For l ∷ mark p.LeftParenthesis k ∷ word kw.Var j ∷ x) z s)
          (λ g m v z o s a b. subst (λ q. Statement Exp Body Stm (word kw.For l ∷ mark p.LeftParenthesis k ∷ word kw.Var j ∷ q) z (tree.for_in true (tree.name d.name) o (body_of s))) (sym c.1) (for_in_variable a b))
      by (Some a) n = err
  declared_holds l k j i e x y (d ∷ f ∷ rest) h = err

  variables_hold : (l k j : Bool) (x : List Lexeme) → Holds (For l k (word kw.Var j ∷ x)) (reader.for_variables limit exp body statement x)
  unfolding reader.for_variables
  variables_hold l k j x =
      then_holds _ (declarations_hold limit exp body statement Exp Body Stm inner stm false x) (λ found y h.
      eat_holds (Word kw.In) y _
      (λ i e. declared_holds l k j i h.0 x (tail y) found (subst (λ q. Separated (Declaration Exp Body Stm false) h.0 x q found) e h.1))
      (λ e. for_loop_holds l k (word kw.Var j ∷ x) y (init_var (declarators_of found)) (variables h.1)))

  expression_holds : (l k : Bool) (x : List Lexeme) (o : Option Prefix) → Holds (For l k x) (reader.for_expression limit exp body statement o x)
  expression_holds l k x (Some f) = then_holds _ (all_holds limit exp body Exp Body inner false x) (λ a y h. for_loop_holds l k x y (init_expr a) (expression h.1))
  expression_holds l k x None =
      then_holds _ (left_holds limit exp body Exp Body inner true x) (λ t y h.
      eat_holds (Word kw.In) y _
      (λ i e. for_in_holds false t (tail y) (λ s z. Statement Exp Body Stm (word kw.For l ∷ mark p.LeftParenthesis k ∷ x) z s)
      (λ g m v z o s a b. for_in (subst (λ q. LeftHandSide Exp Body true x q t) e h.0) a b))
      (λ e.
      then_holds _ (assigned_holds limit exp body Exp Body inner false x y t h) (λ a v m.
      then_holds _ (all_from_holds limit exp body Exp Body inner false x v a m) (λ b w n.
      for_loop_holds l k x w (init_expr b) (expression n.1)))))

  pub for_holds : (l : Bool) (x : List Lexeme) → Holds (λ s z. Statement Exp Body Stm (word kw.For l ∷ x) z s × StatementFits limit s) (reader.for_statement limit exp body statement x)
  unfolding reader.for_statement
  for_holds l x =
      then_holds _ (expect_holds (Mark p.LeftParenthesis) x) (λ u y c.
      held (λ s z h. subst (λ q. Statement Exp Body Stm (word kw.For l ∷ q) z s × StatementFits limit s) (sym c.1) h) (by_sign c.0 y (sign_at y) refl))
    where
      by_sign : (k : Bool) (y : List Lexeme) (o : Option Sign) → sign_at y ≡ o → Holds (For l k y) (reader.for_by limit exp body statement o y)
      by_sign k y None i = expression_holds l k y None
      by_sign k y (Some (Mark p.Semicolon)) i = for_loop_holds l k y y no_init nothing
      by_sign k y (Some (Word kw.Var)) i =
          let c = signed y (Word kw.Var) i in
          held (λ s z h. subst (λ q. For l k q s z) (sym c.1) h) (variables_hold l k c.0 (tail y))
      by_sign k y (Some (Mark m)) i = expression_holds l k y (prefix_of (Some (Mark m)))
      by_sign k y (Some (Word m)) i = expression_holds l k y (prefix_of (Some (Word m)))
