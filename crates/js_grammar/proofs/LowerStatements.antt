-- The parts of a statement are lower than it, but for the block that is its body.
use Rattle.std.proofs.Common.{ℕ, ◌+◌, ◌<◌, ◌≤◌, Bool, true, false, List, ◌∷◌, Option, Some, arith}
use Rattle.js_core.specs.Tree as tree
use Rattle.js_core.specs.Tree.{maybe_expr, stmts_of}
use Rattle.js_core.specs.Views.{declarators_of}
use Rattle.js_core.specs.Height.{expr_height, maybe_expr_height, stmt_height, stmts_height, declarators_height, for_init_height, cases_height, code_height}
use Rattle.js_core.specs.declared.syntax.Declarator.{Declarator}
use Rattle.js_core.specs.declared.token.Punct.TheVariants as p
use Rattle.js_core.specs.declared.keyword.Keyword.TheVariants as kw
use Rattle.js_grammar.specs.Symbols.{Lexeme}
use Rattle.js_grammar.specs.Operators.{Level, sequence}
use Rattle.js_grammar.specs.Endings.{Ending}
use Rattle.js_grammar.specs.Phrases.{Phrase, mark, word, Many}
use Rattle.js_grammar.specs.Expressions.{LeftHandSide, Assignment, Sequence, Procedure}
use Rattle.js_grammar.specs.Statements.{body_of, Clause, cases_from, Declaration, bare, initialised, Braced, braced, Maybe, missing, present, Init, nothing, variables, expression, Case, case, default, Statement, block, variable, empty, expressed, conditional, alternative, do_while, while, for_loop, for_in, for_in_variable, continue, break, return, return_value, throw, try_catch, try_finally, try_both, switch, Element, is_statement, declaration, Elements}
use Rattle.js_grammar.proofs.StatementHeights.{StatementFits, statements_fit, DeclaratorFits, declarators_fit, ClauseFits, clauses_fit}
use Rattle.js_grammar.proofs.LowerLists.{many_kept, separated_kept}
use Rattle.js_grammar.proofs.LowerExpressions.{assignment_kept, left_kept, sequence_kept, procedure_kept}

-- statements in braces
module _ (Exp : Bool → Level → Bool → Phrase tree.Expr) (Body : Phrase (List tree.Stmt)) (Stm : Phrase tree.Stmt) (LowExp : Bool → Level → Bool → Phrase tree.Expr) (LowBody : Phrase (List tree.Stmt)) (LowStm : Phrase tree.Stmt) (bound : ℕ) (item : (x z : List Lexeme) (s : tree.Stmt) → Stm x z s → stmt_height s < bound → LowStm x z s) where
  pub many_lower : {x z : List Lexeme} {found : List tree.Stmt} → Many Stm x z found → stmts_height (stmts_of found) < bound → Many LowStm x z found
  many_lower {found = found} h lt =
      let n = stmts_height (stmts_of found) in
      many_kept Stm LowStm (StatementFits n) (λ x z s i f. item x z s i (omega arith)) h (statements_fit n found (omega arith))

  pub braced_lower : {x z : List Lexeme} {found : List tree.Stmt} → Braced Exp Body Stm x z found → stmts_height (stmts_of found) < bound → Braced LowExp LowBody LowStm x z found
  braced_lower (braced h) lt = braced (many_lower h lt)

-- What stands in a statement that is no higher than the bound: the inside of a group is lower by one, what stands inside an
-- expression by two.
module _ (Exp : Bool → Level → Bool → Phrase tree.Expr) (Body : Phrase (List tree.Stmt)) (Stm : Phrase tree.Stmt) (LowExp : Bool → Level → Bool → Phrase tree.Expr) (LowBody : Phrase (List tree.Stmt)) (LowStm : Phrase tree.Stmt) (bound : ℕ) (lower : (inn : Bool) (level : Level) (g : Bool) (x z : List Lexeme) (a : tree.Expr) → Exp inn level g x z a → expr_height a + 2 ≤ bound → LowExp inn level g x z a) (group : (g : Bool) (x z : List Lexeme) (a : tree.Expr) → Exp true sequence g x z a → expr_height a < bound → LowExp true sequence g x z a) (lower_body : (x z : List Lexeme) (found : List tree.Stmt) → Body x z found → stmts_height (stmts_of found) + 2 ≤ bound → LowBody x z found) (item : (x z : List Lexeme) (s : tree.Stmt) → Stm x z s → stmt_height s < bound → LowStm x z s) (body : (x z : List Lexeme) (s : tree.Stmt) → Stm x z s → stmts_height (body_of s) < bound → LowStm x z s) where
  sequence_lower : (inn g : Bool) (x z : List Lexeme) (a : tree.Expr) → Sequence Exp Body inn g x z a → expr_height a < bound → Sequence LowExp LowBody inn g x z a
  sequence_lower inn g x z a h lt =
      let n = expr_height a in
      sequence_kept Exp Body LowExp LowBody n (λ inn level g x z b i f. lower inn level g x z b i (omega arith)) (λ x z found i f. lower_body x z found i (omega arith)) n (omega arith) (λ l k g y z b e i f. group g y (mark p.RightParenthesis k ∷ z) b i (omega arith)) h (omega arith)

  assignment_lower : (inn g : Bool) (x z : List Lexeme) (a : tree.Expr) → Assignment Exp Body inn g x z a → expr_height a < bound → Assignment LowExp LowBody inn g x z a
  assignment_lower inn g x z a h lt =
      let n = expr_height a in
      assignment_kept Exp Body LowExp LowBody n (λ inn level g x z b i f. lower inn level g x z b i (omega arith)) (λ x z found i f. lower_body x z found i (omega arith)) n (omega arith) (λ l k g y z b e i f. group g y (mark p.RightParenthesis k ∷ z) b i (omega arith)) h (omega arith)

  left_lower : (calls : Bool) (x z : List Lexeme) (a : tree.Expr) → LeftHandSide Exp Body calls x z a → expr_height a < bound → LeftHandSide LowExp LowBody calls x z a
  left_lower calls x z a h lt =
      let n = expr_height a in
      left_kept Exp Body LowExp LowBody n (λ inn level g x z b i f. lower inn level g x z b i (omega arith)) (λ x z found i f. lower_body x z found i (omega arith)) n (omega arith) (λ l k g y z b e i f. group g y (mark p.RightParenthesis k ∷ z) b i (omega arith)) h (omega arith)

  procedure_lower : (own : Option (List ℕ)) (x z : List Lexeme) (c : tree.Code) → Procedure Exp Body own x z c → code_height c + 2 ≤ bound → Procedure LowExp LowBody own x z c
  procedure_lower own x z c h lt =
      procedure_kept Exp Body LowExp LowBody (code_height c + 1) (λ inn level g x z b i f. lower inn level g x z b i (omega arith)) (λ x z found i f. lower_body x z found i (omega arith)) h (omega arith)

  declaration_lower : (n : ℕ) → n < bound → (inn : Bool) (e : Ending) (x z : List Lexeme) (d : Declarator) → Declaration Exp Body Stm inn e x z d → DeclaratorFits n d → Declaration LowExp LowBody LowStm inn e x z d
  declaration_lower n lt inn e x z d bare f = bare
  declaration_lower n lt inn e x z d (initialised {g = g} {x = v} {a = a} h) f = initialised (assignment_lower inn g v z a h (omega arith))

  maybe_lower : {x z : List Lexeme} {o : Option tree.Expr} → Maybe Exp Body Stm x z o → maybe_expr_height (maybe_expr o) < bound → Maybe LowExp LowBody LowStm x z o
  maybe_lower missing lt = missing
  maybe_lower (present {g = g} {x = x} {z = z} {a = a} h) lt = present (sequence_lower true g x z a h (omega arith))

  init_lower : {x z : List Lexeme} {i : tree.ForInit} → Init Exp Body Stm x z i → for_init_height i < bound → Init LowExp LowBody LowStm x z i
  init_lower nothing lt = nothing
  init_lower (variables {found = found} h) lt =
      let n = declarators_height (declarators_of found) in
      variables (separated_kept (Declaration Exp Body Stm false) (Declaration LowExp LowBody LowStm false) (DeclaratorFits n) (declaration_lower n (omega arith) false) h (declarators_fit n found (omega arith)))
  init_lower (expression {g = g} {x = x} {z = z} {a = a} h) lt = expression (sequence_lower false g x z a h (omega arith))

  items : {x z : List Lexeme} {found : List tree.Stmt} → Many Stm x z found → stmts_height (stmts_of found) < bound → Many LowStm x z found
  items h lt = many_lower Exp Body Stm LowExp LowBody LowStm bound item h lt

  in_braces : {x z : List Lexeme} {found : List tree.Stmt} → Braced Exp Body Stm x z found → stmts_height (stmts_of found) < bound → Braced LowExp LowBody LowStm x z found
  in_braces h lt = braced_lower Exp Body Stm LowExp LowBody LowStm bound item h lt

  case_lower : (n : ℕ) → n < bound → (x z : List Lexeme) (c : Clause) → Case Exp Body Stm x z c → ClauseFits n c → Case LowExp LowBody LowStm x z c
  case_lower n lt x z c (case {g = g} {k = k} {x = v} {y = y} {a = a} {found = found} h i) f =
      let test : expr_height a ≤ n = f.0 in
      let list : stmts_height (stmts_of found) ≤ n = f.1 in
      case (sequence_lower true g v (mark p.Colon k ∷ y) a h (omega arith)) (items i (omega arith))
  case_lower n lt x z c (default {found = found} h) f =
      let list : stmts_height (stmts_of found) ≤ n = f.1 in
      default (items h (omega arith))

  pub statement_lower : {x z : List Lexeme} {s : tree.Stmt} → Statement Exp Body Stm x z s → stmt_height s ≤ bound → Statement LowExp LowBody LowStm x z s
  statement_lower (block h) f = block (in_braces h (omega arith))
  statement_lower (variable {found = found} h e) f =
      let n = declarators_height (declarators_of found) in
      variable (separated_kept (Declaration Exp Body Stm true) (Declaration LowExp LowBody LowStm true) (DeclaratorFits n) (declaration_lower n (omega arith) true) h (declarators_fit n found (omega arith))) e
  statement_lower empty f = empty
  statement_lower (expressed {g = g} {x = x} {y = y} {a = a} n h e) f = expressed n (sequence_lower true g x y a h (omega arith)) e
  statement_lower (conditional {g = g} {j = j} {x = v} {y = y} {z = z} {a = a} {s = s} h i e) f =
      conditional (sequence_lower true g v (mark p.RightParenthesis j ∷ y) a h (omega arith)) (body y z s i (omega arith)) e
  statement_lower (alternative {g = g} {j = j} {i = n} {x = v} {y = y} {v = w} {z = z} {a = a} {s = s} {t = t} h i e) f =
      alternative (sequence_lower true g v (mark p.RightParenthesis j ∷ y) a h (omega arith)) (body y (word kw.Else n ∷ w) s i (omega arith)) (body w z t e (omega arith))
  statement_lower (do_while {g = g} {k = k} {j = j} {i = n} {x = v} {y = y} {v = w} {a = a} {s = s} h i e) f =
      do_while (body v (word kw.While k ∷ mark p.LeftParenthesis j ∷ y) s h (omega arith)) (sequence_lower true g y (mark p.RightParenthesis n ∷ w) a i (omega arith)) e
  statement_lower (while {g = g} {j = j} {x = v} {y = y} {z = z} {a = a} {s = s} h i) f =
      while (sequence_lower true g v (mark p.RightParenthesis j ∷ y) a h (omega arith)) (body y z s i (omega arith))
  statement_lower (for_loop {u = u} {z = z} {s = s} h i j b) f =
      for_loop (init_lower h (omega arith)) (maybe_lower i (omega arith)) (maybe_lower j (omega arith)) (body u z s b (omega arith))
  statement_lower (for_in {g = g} {j = j} {i = n} {x = v} {y = y} {v = w} {z = z} {a = a} {o = o} {s = s} h i b) f =
      for_in (left_lower true v (word kw.In j ∷ y) a h (omega arith)) (sequence_lower true g y (mark p.RightParenthesis n ∷ w) o i (omega arith)) (body w z s b (omega arith))
  statement_lower (for_in_variable {g = g} {m = n} {y = y} {v = w} {z = z} {o = o} {s = s} i b) f =
      for_in_variable (sequence_lower true g y (mark p.RightParenthesis n ∷ w) o i (omega arith)) (body w z s b (omega arith))
  statement_lower (continue e) f = continue e
  statement_lower (break e) f = break e
  statement_lower (return e) f = return e
  statement_lower (return_value {g = g} {x = v} {y = y} {a = a} n h e) f = return_value n (sequence_lower true g v y a h (omega arith)) e
  statement_lower (throw {g = g} {x = v} {y = y} {a = a} n h e) f = throw n (sequence_lower true g v y a h (omega arith)) e
  statement_lower (try_catch h i e) f = try_catch (in_braces h (omega arith)) (in_braces i (omega arith)) e
  statement_lower (try_finally h i) f = try_finally (in_braces h (omega arith)) (in_braces i (omega arith))
  statement_lower (try_both h i j) f = try_both (in_braces h (omega arith)) (in_braces i (omega arith)) (in_braces j (omega arith))
  statement_lower (switch {g = g} {j = j} {i = n} {x = v} {y = y} {a = a} {found = found} h i e) f =
      let m = cases_height (cases_from found) in
      switch (sequence_lower true g v (mark p.RightParenthesis j ∷ mark p.LeftBrace n ∷ y) a h (omega arith)) (many_kept (Case Exp Body Stm) (Case LowExp LowBody LowStm) (ClauseFits m) (case_lower m (omega arith)) i (clauses_fit m found (omega arith))) e

  element_lower : (x z : List Lexeme) (s : tree.Stmt) → Element Exp Body Stm x z s → stmt_height s ≤ bound → Element LowExp LowBody LowStm x z s
  element_lower x z s (is_statement h) f = is_statement (statement_lower h f)
  element_lower x z s (declaration {w = w} {x = v} {c = c} h) f = declaration (procedure_lower (Some w) v z c h (omega arith))

  pub elements_lower : {x z : List Lexeme} {found : List tree.Stmt} → Elements Exp Body Stm x z found → stmts_height (stmts_of found) ≤ bound → Elements LowExp LowBody LowStm x z found
  elements_lower {found = found} h f =
      many_kept (Element Exp Body Stm) (Element LowExp LowBody LowStm) (StatementFits bound) (λ x z s i le. element_lower x z s i le) h (statements_fit bound found f)
