-- The headers of `for` are read as the grammar has them.
use Rattle.std.proofs.Common.{◌≡◌, ℕ, ◌+◌, ◌<◌, ◌≤◌, Bool, true, false, List, ◌∷◌, length, Option, Some, None, refl, sym, subst, ap, ◌∙◌, arith}
use Rattle.std.specs.Prelude.{if◌then◌else◌}
use Rattle.js_core.specs.Tree as tree
use Rattle.js_core.specs.Tree.{maybe_expr, init_expr, init_var}
use Rattle.js_core.specs.Height.{maybe_expr_height, stmt_height, stmts_height, for_init_height}
use Rattle.js_core.specs.declared.token.Punct.TheVariants as p
use Rattle.js_core.specs.declared.keyword.Keyword.TheVariants as kw
use Rattle.js_grammar.specs.declared.sign.Sign.{Sign}
use Rattle.js_grammar.specs.declared.sign.Sign.TheVariants.{Mark, Word}
use Rattle.js_grammar.specs.Symbols.{identifier, Lexeme, sign_at}
use Rattle.js_grammar.specs.Operators.{Level, Prefix, prefix_of}
use Rattle.js_grammar.specs.Parser.{Parser, Outcome, and_then, tail, sees, expect, eat, taken, separated}
use Rattle.js_grammar.specs.Phrases.{Phrase, mark, word}
use Rattle.js_grammar.specs.Expressions.{LeftHandSide, Sequence}
use Rattle.js_grammar.specs.ExpressionReader as expressions
use Rattle.js_grammar.specs.Endings.{Ending, after_expression, after_name, after_all}
use Rattle.js_grammar.specs.Statements.{body_of, Maybe, Init, nothing, variables, expression}
use Rattle.js_grammar.specs.StatementReader as reader
use Rattle.js_grammar.proofs.Beginnings.{can_begin}
use Rattle.js_grammar.proofs.Heights.{Fits}
use Rattle.js_grammar.proofs.StatementHeights.{StatementFits, body_fits, maybe_fits}
use Rattle.js_grammar.proofs.ExpressionShapes.{left_shorter, left_begins, sequence_shorter, sequence_begins}
use Rattle.js_grammar.proofs.StatementShapes.{init_shorter, maybe_shorter}
use Rattle.js_grammar.proofs.Holds.{seen, same_some}
use Rattle.js_grammar.proofs.Steps.{then_reads, kept}
use Rattle.js_grammar.proofs.Inner.{Inner}
use Rattle.js_grammar.proofs.InnerStatements.{InnerStatements}
use Rattle.js_grammar.proofs.LeftReads.{left_reads, left_no_prefix}
use Rattle.js_grammar.proofs.ExpressionReads.{sequence_reads}
use Rattle.js_grammar.proofs.DeclarationReads.{DeclaratorStops, declarations_read, test_reads, next_reads}

-- two steps and then one are one step and then two
then_then : {A B C : Type 0} (r : Outcome A) (f : A → Parser B) (g : B → Parser C) → and_then (and_then r f) g ≡ and_then r (λ a i. and_then (f a i) g)
then_then None f g = refl
then_then (Some q) f g = refl

in_is_no_semicolon : (t a : tree.Expr) (l k : Bool) (z y : List Lexeme) → ◌≡◌ {A = Outcome tree.Expr} (Some (t, word kw.In l ∷ z)) (Some (a, mark p.Semicolon k ∷ y)) → ⊥
in_is_no_semicolon t a l k z y e = apart (ap (λ q. sign_at q.1) (same_some (t, word kw.In l ∷ z) (a, mark p.Semicolon k ∷ y) e))
  where
    apart : ◌≡◌ {A = Option Sign} (Some (Word kw.In)) (Some (Mark p.Semicolon)) → ⊥
    apart e = absurd (cc)

module _ (limit : ℕ) (exp : Bool → Level → Parser tree.Expr) (body : Parser (List tree.Stmt)) (statement : Parser tree.Stmt) where
  -- an expression that begins with a left-hand side
  all_is : (inn : Bool) (x : List Lexeme) → prefix_of (sign_at x) ≡ None → expressions.all limit exp body inn x ≡ and_then (expressions.left limit exp body true x) (λ t i. and_then (expressions.assigned limit exp body inn t i) (expressions.all_from limit exp body inn))
  unfolding expressions.all expressions.one expressions.all_from separated
  all_is inn x e = rw e (by (expressions.left limit exp body true x))
    where
      inside : (q : Outcome tree.Expr) → and_then (and_then q (λ a i. expressions.more_items limit exp body inn a i)) (expressions.joined limit exp body) ≡ and_then q (λ a i. and_then (expressions.more_items limit exp body inn a i) (expressions.joined limit exp body))
      inside None = refl
      inside (Some q) = refl

      by : (r : Outcome tree.Expr) → and_then (and_then (and_then r (expressions.assigned limit exp body inn)) (λ a i. expressions.more_items limit exp body inn a i)) (expressions.joined limit exp body) ≡ and_then r (λ t i. and_then (expressions.assigned limit exp body inn t i) (λ a j. and_then (expressions.more_items limit exp body inn a j) (expressions.joined limit exp body)))
      by None = refl
      by (Some q) = inside (expressions.assigned limit exp body inn q.0 q.1)

  -- before `in` nothing goes on with a left-hand side in the header of a `for`
  at_in : (t : tree.Expr) (l : Bool) (z : List Lexeme) → and_then (expressions.assigned limit exp body false t (word kw.In l ∷ z)) (expressions.all_from limit exp body false) ≡ Some (t, word kw.In l ∷ z)
  unfolding expressions.assigned expressions.postfix expressions.rest expressions.operations expressions.choice expressions.all_from eat sees
  at_in t l z = refl

  -- where an expression ends before a semicolon, a `for` goes on with it
  for_expression_is : (x y : List Lexeme) (l : Bool) (a : tree.Expr) → expressions.all limit exp body false x ≡ Some (a, mark p.Semicolon l ∷ y) → reader.for_expression limit exp body statement (prefix_of (sign_at x)) x ≡ reader.for_loop limit exp body statement (init_expr a) (mark p.Semicolon l ∷ y)
  unfolding eat
  for_expression_is x y l a e = by_prefix (prefix_of (sign_at x)) refl
    where
      onward : tree.Expr → Parser tree.Stmt
      onward b = reader.for_loop limit exp body statement (init_expr b)

      by_in : (t : tree.Expr) (i : List Lexeme) → and_then (expressions.assigned limit exp body false t i) (expressions.all_from limit exp body false) ≡ Some (a, mark p.Semicolon l ∷ y) → (b : Bool) → sees (Word kw.In) i ≡ b → and_then (if b then Some (true, tail i) else Some (false, i)) (reader.for_target_by limit exp body statement t) ≡ onward a (mark p.Semicolon l ∷ y)
      by_in t i f true s =
          let c = seen (Word kw.In) i s in
          let g : ◌≡◌ {A = Outcome tree.Expr} (Some (t, word kw.In c.0 ∷ tail i)) (Some (a, mark p.Semicolon l ∷ y)) = sym (at_in t c.0 (tail i)) ∙ subst (λ v. and_then (expressions.assigned limit exp body false t v) (expressions.all_from limit exp body false) ≡ Some (a, mark p.Semicolon l ∷ y)) c.1 f in
          absurd (in_is_no_semicolon t a c.0 l (tail i) y g)
      by_in t i f false s = sym (then_then (expressions.assigned limit exp body false t i) (expressions.all_from limit exp body false) onward) ∙ then_reads onward f refl

      by_left : (r : Outcome tree.Expr) → and_then r (λ t i. and_then (expressions.assigned limit exp body false t i) (expressions.all_from limit exp body false)) ≡ Some (a, mark p.Semicolon l ∷ y) → and_then r (λ t. reader.for_target limit exp body statement t) ≡ onward a (mark p.Semicolon l ∷ y)
      by_left None f = absurd (cc)
      by_left (Some q) f = by_in q.0 q.1 f (sees (Word kw.In) q.1) refl

      by_prefix : (o : Option Prefix) → prefix_of (sign_at x) ≡ o → reader.for_expression limit exp body statement o x ≡ onward a (mark p.Semicolon l ∷ y)
      by_prefix None n = by_left (expressions.left limit exp body true x) (sym (all_is false x n) ∙ e)
      by_prefix (Some f) n = then_reads _ e refl

by_expression : (limit : ℕ) (exp : Bool → Level → Parser tree.Expr) (body : Parser (List tree.Stmt)) (statement : Parser tree.Stmt) (s : Option Sign) (x : List Lexeme) → can_begin s ≡ true → reader.for_by limit exp body statement s x ≡ reader.for_expression limit exp body statement (prefix_of s) x
by_expression limit exp body statement None x e = refl
by_expression limit exp body statement (Some (Mark p.Semicolon)) x e = absurd (cc)
by_expression limit exp body statement (Some (Word kw.Var)) x e = absurd (cc)
by_expression limit exp body statement (Some (Mark _)) x e = refl
by_expression limit exp body statement (Some (Word _)) x e = refl

module _ (limit : ℕ) (exp : Bool → Level → Parser tree.Expr) (body : Parser (List tree.Stmt)) (statement : Parser tree.Stmt) (Exp : Bool → Level → Bool → Phrase tree.Expr) (Body : Phrase (List tree.Stmt)) (Stm : Phrase tree.Stmt) (bound : ℕ) (inner : Inner limit exp body Exp Body bound) (stm : InnerStatements limit statement Stm bound) where
  for_loop_reads : (l k h : Bool) {y v u z : List Lexeme} {init : tree.ForInit} {test next : Option tree.Expr} {s : tree.Stmt} → Maybe Exp Body Stm y (mark p.Semicolon k ∷ v) test → Maybe Exp Body Stm v (mark p.RightParenthesis h ∷ u) next → Stm u z s → length y < bound → StatementFits limit (tree.for init (maybe_expr test) (maybe_expr next) (body_of s)) → reader.for_loop limit exp body statement init (mark p.Semicolon l ∷ y) ≡ Some (tree.for init (maybe_expr test) (maybe_expr next) (body_of s), z)
  unfolding reader.for_loop expect sees
  for_loop_reads l k h {y} {v} {u} {z} {init} {test} {next} {s} i j m lt f =
      let a1 = maybe_shorter Exp Body Stm inner.shorter inner.body_shorter stm.shorter i in
      let a2 = maybe_shorter Exp Body Stm inner.shorter inner.body_shorter stm.shorter j in
      let first : maybe_expr_height (maybe_expr test) ≤ limit = omega arith in
      let second : maybe_expr_height (maybe_expr next) ≤ limit = omega arith in
      let third : stmts_height (body_of s) + 1 ≤ limit = omega arith in
      then_reads _ (test_reads limit exp body statement Exp Body Stm bound inner stm k i (omega arith) (maybe_fits limit test first))
      (then_reads _ (next_reads limit exp body statement Exp Body Stm bound inner stm h j (omega arith) (maybe_fits limit next second))
      (then_reads _ (stm.reads u z s m (omega arith) (body_fits limit s third))
      (kept limit (stmt_height (tree.for init (maybe_expr test) (maybe_expr next) (body_of s))) (tree.for init (maybe_expr test) (maybe_expr next) (body_of s)) z f)))

  for_in_reads : (declared g l : Bool) {y v z : List Lexeme} {t o : tree.Expr} {s : tree.Stmt} → Sequence Exp Body true g y (mark p.RightParenthesis l ∷ v) o → Stm v z s → length y < bound → StatementFits limit (tree.for_in declared t o (body_of s)) → reader.for_in limit exp body statement declared t y ≡ Some (tree.for_in declared t o (body_of s), z)
  unfolding reader.for_in expect sees
  for_in_reads declared g l {y} {v} {z} {t} {o} {s} h m lt f =
      let a1 = sequence_shorter Exp Body inner.shorter inner.body_shorter h in
      let first : Fits limit o = omega arith in
      let third : stmts_height (body_of s) + 1 ≤ limit = omega arith in
      then_reads _ (sequence_reads limit exp body Exp Body bound inner true g y (mark p.RightParenthesis l ∷ v) o h (omega arith) first ((λ e. (refl, refl)), refl, refl, refl))
      (then_reads _ (stm.reads v z s m (omega arith) (body_fits limit s third))
      (kept limit (stmt_height (tree.for_in declared t o (body_of s))) (tree.for_in declared t o (body_of s)) z f))

  init_reads : (l : Bool) {x y : List Lexeme} {i : tree.ForInit} → Init Exp Body Stm x (mark p.Semicolon l ∷ y) i → length x < bound → for_init_height i ≤ limit → reader.for_by limit exp body statement (sign_at x) x ≡ reader.for_loop limit exp body statement i (mark p.Semicolon l ∷ y)
  unfolding reader.for_variables eat sees
  init_reads l nothing lt f = refl
  init_reads l {y = y} (variables {e = e} {found = found} h) lt f =
      then_reads _ (declarations_read limit exp body statement Exp Body Stm bound inner stm false h (omega arith) f (stops e) refl) refl
    where
      stops : (e : Ending) → DeclaratorStops false e (mark p.Semicolon l ∷ y)
      stops (after_expression g) = ((λ e. (refl, refl)), refl, refl)
      stops after_name = refl
      stops after_all = tt
  init_reads l {y = y} (expression {g = g} {x = x} {a = a} h) lt f =
      by_expression limit exp body statement (sign_at x) x (sequence_begins Exp Body h)
      ∙ for_expression_is limit exp body statement x y l a (sequence_reads limit exp body Exp Body bound inner false g x (mark p.Semicolon l ∷ y) a h (omega arith) f ((λ e. (refl, refl)), refl, refl, refl))

  pub for_loop_statement : (l k j h : Bool) {x y v u z : List Lexeme} {init : tree.ForInit} {test next : Option tree.Expr} {s : tree.Stmt} → Init Exp Body Stm x (mark p.Semicolon j ∷ y) init → Maybe Exp Body Stm y (mark p.Semicolon k ∷ v) test → Maybe Exp Body Stm v (mark p.RightParenthesis h ∷ u) next → Stm u z s → length x < bound → StatementFits limit (tree.for init (maybe_expr test) (maybe_expr next) (body_of s)) → reader.for_statement limit exp body statement (mark p.LeftParenthesis l ∷ x) ≡ Some (tree.for init (maybe_expr test) (maybe_expr next) (body_of s), z)
  unfolding reader.for_statement expect sees
  for_loop_statement l k j h {x} {y} {init = init} {test = test} {next = next} {s = s} i m n o lt f =
      let a1 = init_shorter Exp Body Stm inner.shorter inner.body_shorter stm.shorter i in
      let first : for_init_height init ≤ limit = omega arith in
      init_reads j i lt first ∙ for_loop_reads j k h m n o (omega arith) f

  pub for_in_statement : (g l k j : Bool) {x y v z : List Lexeme} {t o : tree.Expr} {s : tree.Stmt} → LeftHandSide Exp Body true x (word kw.In k ∷ y) t → Sequence Exp Body true g y (mark p.RightParenthesis j ∷ v) o → Stm v z s → length x < bound → StatementFits limit (tree.for_in false t o (body_of s)) → reader.for_statement limit exp body statement (mark p.LeftParenthesis l ∷ x) ≡ Some (tree.for_in false t o (body_of s), z)
  unfolding reader.for_statement expect sees eat
  for_in_statement g l k j {x} {y} {t = t} {o = o} {s = s} h i m lt f =
      let a1 = left_shorter Exp Body inner.shorter inner.body_shorter h in
      let first : Fits limit t = omega arith in
      by_expression limit exp body statement (sign_at x) x (left_begins Exp Body h)
      ∙ rw (left_no_prefix Exp Body h) (then_reads _ (left_reads limit exp body Exp Body bound inner true h (omega arith) first refl) (for_in_reads false g j i m (omega arith) f))

  pub for_in_variable_statement : (g l k j i h : Bool) (w : List ℕ) {y v z : List Lexeme} {o : tree.Expr} {s : tree.Stmt} → Sequence Exp Body true g y (mark p.RightParenthesis h ∷ v) o → Stm v z s → length y < bound → StatementFits limit (tree.for_in true (tree.name w) o (body_of s)) → reader.for_statement limit exp body statement (mark p.LeftParenthesis l ∷ word kw.Var k ∷ (identifier w, j) ∷ word kw.In i ∷ y) ≡ Some (tree.for_in true (tree.name w) o (body_of s), z)
  unfolding reader.for_statement reader.for_variables reader.declaration reader.declared_by separated taken expect sees eat
  for_in_variable_statement g l k j i h w n m lt f = for_in_reads true g h n m lt f
