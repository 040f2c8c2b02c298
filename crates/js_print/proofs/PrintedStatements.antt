-- Each form of statement is printed as one that is read.
use Rattle.std.proofs.Common.{◌≡◌, ℕ, ◌+◌, true, false, List, [], ◌∷◌, ◌++◌, Option, refl, sym, subst, arith}
use Rattle.js_core.specs.Tree as tree
use Rattle.js_core.specs.Tree.{maybe_expr, stmts_of, no_body, one_body, no_catch, one_catch}
use Rattle.js_core.specs.Views.{declarators_of}
use Rattle.js_core.specs.declared.syntax.Declarator.{Declarator}
use Rattle.js_core.specs.declared.token.TokenKind.{TokenKind}
use Rattle.js_core.specs.declared.token.Punct.TheVariants as punct
use Rattle.js_core.specs.declared.keyword.Keyword.TheVariants as keyword
use Rattle.js_grammar.specs.Symbols as symbols
use Rattle.js_grammar.specs.Symbols.{sign_at}
use Rattle.js_grammar.specs.Phrases.{mark, word}
use Rattle.js_grammar.specs.Statements.{body_of, Clause, cases_from, has_one_default, semicolon, Statement, variable, empty, expressed, conditional, alternative, do_while, while, for_loop, for_in, for_in_variable, continue, break, return, return_value, throw, try_catch, try_finally, try_both, switch}
use Rattle.js_print.specs.declared.lexeme.Lexeme.{Lexeme}
use Rattle.js_print.specs.declared.lexeme.Lexeme.TheVariants.{Keyword, Name, Punct}
use Rattle.js_print.specs.declared.place.Place.TheVariants.{Operand, Whole, Statement as Alone}
use Rattle.js_print.specs.Lexemes.{expr_lexemes, stmts_lexemes, declarators_lexemes, maybe_whole_lexemes, init_lexemes, cases_lexemes}
use Rattle.js_print.specs.Places.{placed, parenthesised, braced}
use Rattle.js_print.proofs.PrintedSymbols.{Keeps, before, before_both, AreKept, kept_both, IsIdentifier}
use Rattle.js_print.proofs.PrintedReads.{Exp, Body, Stm, Each, left_of_member}
use Rattle.js_print.proofs.PrintedPlaces.{Printed, placed_kept, whole_opens, statement_opens, operand, whole_of, statement_of}
use Rattle.js_print.proofs.PrintedLists.{PrintedHole}
use Rattle.js_print.proofs.PrintedBlocks.{branch_else, branch_finally, begins, begins_by, not_excluded, in_same_line, before_header, header_kept, braces_kept, all_braces_kept, PrintedStatement, all_kept, braces_read, no_block}
use Rattle.js_print.proofs.PrintedDeclarations.{PrintedDeclarator, declarators_kept, declarators_read, maybe_kept, maybe_read, PrintedInit, PrintedClause, cases_kept, cases_read}

abbrev whole : tree.Expr → List Lexeme
whole a = placed Whole a (expr_lexemes a)

abbrev maybe_whole : Option tree.Expr → List Lexeme
maybe_whole o = maybe_whole_lexemes (maybe_expr o)

abbrev bodied : tree.Stmts → List Lexeme
bodied ss = braced (stmts_lexemes ss)

abbrev semicolon_lexeme : Lexeme
semicolon_lexeme = Punct punct.Semicolon

abbrev for_header : tree.ForInit → Option tree.Expr → Option tree.Expr → List Lexeme
for_header i test next = init_lexemes i ++ semicolon_lexeme ∷ (maybe_whole test ++ semicolon_lexeme ∷ maybe_whole next)

module _ (Ok : TokenKind → Type 0) (keeps : Keeps Ok) where
  pub printed_variable : (c : Declarator) (ds : List Declarator) → PrintedDeclarator Ok keeps c → Each (PrintedDeclarator Ok keeps) ds → PrintedStatement Ok keeps (tree.var (declarators_of (c ∷ ds)))
  printed_variable c ds p h =
      let r = declarators_read Ok keeps true c ds p h in
      no_block Ok keeps (tree.var (declarators_of (c ∷ ds))) refl (record {
        kept = (keeps.words keyword.Var, kept_both Ok (declarators_lexemes (declarators_of (c ∷ ds))) _ (declarators_kept Ok keeps (c ∷ ds) (p, h)) (keeps.marks punct.Semicolon, tt));
        opening = begins refl;
        room = r.1.room;
        read = λ d z le e. subst (λ v. Statement (Exp d) (Body d) (Stm d) (word keyword.Var false ∷ v) z (tree.var (declarators_of (c ∷ ds)))) (sym (before_both (declarators_lexemes (declarators_of (c ∷ ds))) (semicolon_lexeme ∷ []) z)) (variable (r.1.read d (mark punct.Semicolon false ∷ z) le) semicolon);
      })

  pub printed_expression : {a : tree.Expr} → Printed Ok keeps a → PrintedStatement Ok keeps (tree.expr a)
  printed_expression {a} p =
      let r = statement_of Ok keeps p in
      no_block Ok keeps (tree.expr a) refl (record {
        kept = kept_both Ok (placed Alone a (expr_lexemes a)) _ (placed_kept Ok keeps Alone p) (keeps.marks punct.Semicolon, tt);
        opening = begins_by _ (statement_opens Ok keeps p);
        room = r.1.room;
        read = λ d z le e. rw before_both (expressed (not_excluded _ (statement_opens Ok keeps p)) (r.1.read d (mark punct.Semicolon false ∷ z) le) semicolon);
      })

  pub printed_empty : PrintedStatement Ok keeps tree.empty
  printed_empty = no_block Ok keeps tree.empty refl (record { kept = (keeps.marks punct.Semicolon, tt); opening = begins refl; room = 0; read = λ d z le e. empty })

  pub printed_conditional : {a : tree.Expr} (s : tree.Stmt) → Printed Ok keeps a → PrintedStatement Ok keeps s → PrintedStatement Ok keeps (tree.if_else a (body_of s) no_body)
  printed_conditional {a} s p q =
      let r = whole_of Ok keeps true p in
      let t = q.inner in
      no_block Ok keeps (tree.if_else a (body_of s) no_body) refl (record {
        kept = (keeps.words keyword.If, header_kept Ok keeps (whole a) _ (placed_kept Ok keeps Whole p) (kept_both Ok (bodied (body_of s)) [] q.inner_kept tt));
        opening = begins refl;
        room = r.1.room + t.room;
        read = λ d z le e. rw (before_header (whole a) (bodied (body_of s) ++ []) z, before_both (bodied (body_of s)) [] z) (conditional (r.1.read d _ (omega arith)) (t.read d z (omega arith)) (branch_else (sign_at z) e));
      })

  pub printed_alternative : {a : tree.Expr} (s t : tree.Stmt) → Printed Ok keeps a → PrintedStatement Ok keeps s → PrintedStatement Ok keeps t → PrintedStatement Ok keeps (tree.if_else a (body_of s) (one_body (body_of t)))
  printed_alternative {a} s t p q k =
      let r = whole_of Ok keeps true p in
      let u = q.inner in
      let v = k.inner in
      no_block Ok keeps (tree.if_else a (body_of s) (one_body (body_of t))) refl (record {
        kept = (keeps.words keyword.If, header_kept Ok keeps (whole a) _ (placed_kept Ok keeps Whole p) (kept_both Ok (bodied (body_of s)) _ q.inner_kept (keeps.words keyword.Else, k.inner_kept)));
        opening = begins refl;
        room = r.1.room + (u.room + v.room);
        read = λ d z le e. rw (before_header (whole a) (bodied (body_of s) ++ Keyword keyword.Else ∷ bodied (body_of t)) z, before_both (bodied (body_of s)) (Keyword keyword.Else ∷ bodied (body_of t)) z) (alternative (r.1.read d _ (omega arith)) (u.read d _ (omega arith)) (v.read d z (omega arith)));
      })

  pub printed_do_while : {a : tree.Expr} (s : tree.Stmt) → Printed Ok keeps a → PrintedStatement Ok keeps s → PrintedStatement Ok keeps (tree.do_while (body_of s) a)
  printed_do_while {a} s p q =
      let r = whole_of Ok keeps true p in
      let t = q.inner in
      no_block Ok keeps (tree.do_while (body_of s) a) refl (record {
        kept = (keeps.words keyword.Do, kept_both Ok (bodied (body_of s)) _ q.inner_kept (keeps.words keyword.While, header_kept Ok keeps (whole a) _ (placed_kept Ok keeps Whole p) (keeps.marks punct.Semicolon, tt)));
        opening = begins refl;
        room = r.1.room + t.room;
        read = λ d z le e. rw (before_both (bodied (body_of s)) (Keyword keyword.While ∷ (parenthesised (whole a) ++ semicolon_lexeme ∷ [])) z, before_header (whole a) (semicolon_lexeme ∷ []) z) (do_while (t.read d _ (omega arith)) (r.1.read d _ (omega arith)) semicolon);
      })

  pub printed_while : {a : tree.Expr} (s : tree.Stmt) → Printed Ok keeps a → PrintedStatement Ok keeps s → PrintedStatement Ok keeps (tree.while a (body_of s))
  printed_while {a} s p q =
      let r = whole_of Ok keeps true p in
      let t = q.inner in
      no_block Ok keeps (tree.while a (body_of s)) refl (record {
        kept = (keeps.words keyword.While, header_kept Ok keeps (whole a) _ (placed_kept Ok keeps Whole p) q.inner_kept);
        opening = begins refl;
        room = r.1.room + t.room;
        read = λ d z le e. rw (before_header (whole a) (bodied (body_of s)) z) (while (r.1.read d _ (omega arith)) (t.read d z (omega arith)));
      })

  pub printed_for : {i : tree.ForInit} (test next : Option tree.Expr) (s : tree.Stmt) → PrintedInit Ok keeps i → PrintedHole Ok keeps test → PrintedHole Ok keeps next → PrintedStatement Ok keeps s → PrintedStatement Ok keeps (tree.for i (maybe_expr test) (maybe_expr next) (body_of s))
  printed_for {i} test next s p q k b =
      let r = p.reads in
      let t = maybe_read Ok keeps test q in
      let n = maybe_read Ok keeps next k in
      let u = b.inner in
      no_block Ok keeps (tree.for i (maybe_expr test) (maybe_expr next) (body_of s)) refl (record {
        kept = (keeps.words keyword.For, header_kept Ok keeps (for_header i test next) _ (kept_both Ok (init_lexemes i) _ p.kept (keeps.marks punct.Semicolon, kept_both Ok (maybe_whole test) _ (maybe_kept Ok keeps test q) (keeps.marks punct.Semicolon, maybe_kept Ok keeps next k))) b.inner_kept);
        opening = begins {xs = parenthesised (for_header i test next) ++ bodied (body_of s)} refl;
        room = (r.room + t.room) + (n.room + u.room);
        read = λ d z le e. rw (before_header (for_header i test next) (bodied (body_of s)) z, before_both (init_lexemes i) (semicolon_lexeme ∷ (maybe_whole test ++ semicolon_lexeme ∷ maybe_whole next)), before_both (maybe_whole test) (semicolon_lexeme ∷ maybe_whole next)) (for_loop (r.read d _ (omega arith)) (t.read d _ (omega arith)) (n.read d _ (omega arith)) (u.read d z (omega arith)));
      })

  pub printed_for_in : {a o : tree.Expr} (s : tree.Stmt) → Printed Ok keeps a → Printed Ok keeps o → PrintedStatement Ok keeps s → PrintedStatement Ok keeps (tree.for_in false a o (body_of s))
  printed_for_in {a} {o} s p q b =
      let r = operand Ok keeps p in
      let t = whole_of Ok keeps true q in
      let u = b.inner in
      let target = placed Operand a (expr_lexemes a) in
      no_block Ok keeps (tree.for_in false a o (body_of s)) refl (record {
        kept = (keeps.words keyword.For, header_kept Ok keeps (target ++ Keyword keyword.In ∷ whole o) _ (kept_both Ok target _ (placed_kept Ok keeps Operand p) (keeps.words keyword.In, placed_kept Ok keeps Whole q)) b.inner_kept);
        opening = begins refl;
        room = r.1.room + (t.1.room + u.room);
        read = λ d z le e. rw (before_header (target ++ Keyword keyword.In ∷ whole o) (bodied (body_of s)) z, before_both target (Keyword keyword.In ∷ whole o)) (for_in (left_of_member (Exp d) (Body d) r.0 (r.1.read d _ (omega arith))) (t.1.read d _ (omega arith)) (u.read d z (omega arith)));
      })

  pub printed_for_in_variable : {w : List ℕ} {o : tree.Expr} (s : tree.Stmt) → IsIdentifier Ok w → Printed Ok keeps o → PrintedStatement Ok keeps s → PrintedStatement Ok keeps (tree.for_in true (tree.name w) o (body_of s))
  printed_for_in_variable {w} {o} s h q b =
      let t = whole_of Ok keeps true q in
      let u = b.inner in
      let header = Keyword keyword.Var ∷ Name w ∷ Keyword keyword.In ∷ whole o in
      no_block Ok keeps (tree.for_in true (tree.name w) o (body_of s)) refl (record {
        kept = (keeps.words keyword.For, header_kept Ok keeps header _ (keeps.words keyword.Var, (h.1, (keeps.words keyword.In, placed_kept Ok keeps Whole q))) b.inner_kept);
        opening = begins refl;
        room = t.1.room + u.room;
        read = λ d z le e.
            subst (λ v. Statement (Exp d) (Body d) (Stm d) (word keyword.For false ∷ v) z (tree.for_in true (tree.name w) o (body_of s))) (sym (before_header header (bodied (body_of s)) z))
            (subst (λ x. Statement (Exp d) (Body d) (Stm d) (word keyword.For false ∷ mark punct.LeftParenthesis false ∷ word keyword.Var false ∷ (x, false) ∷ word keyword.In false ∷ before (whole o) (mark punct.RightParenthesis false ∷ before (bodied (body_of s)) z)) z (tree.for_in true (tree.name w) o (body_of s))) (sym h.0)
            (for_in_variable (t.1.read d _ (omega arith)) (u.read d z (omega arith))));
      })

  pub printed_continue : PrintedStatement Ok keeps tree.continue
  printed_continue = no_block Ok keeps tree.continue refl (record { kept = (keeps.words keyword.Continue, (keeps.marks punct.Semicolon, tt)); opening = begins refl; room = 0; read = λ d z le e. continue semicolon })

  pub printed_break : PrintedStatement Ok keeps tree.break
  printed_break = no_block Ok keeps tree.break refl (record { kept = (keeps.words keyword.Break, (keeps.marks punct.Semicolon, tt)); opening = begins refl; room = 0; read = λ d z le e. break semicolon })

  pub printed_return : PrintedStatement Ok keeps (tree.return tree.no_expr)
  printed_return = no_block Ok keeps (tree.return tree.no_expr) refl (record { kept = (keeps.words keyword.Return, (keeps.marks punct.Semicolon, tt)); opening = begins refl; room = 0; read = λ d z le e. return semicolon })

  pub printed_return_value : {a : tree.Expr} → Printed Ok keeps a → PrintedStatement Ok keeps (tree.return (tree.one_expr a))
  printed_return_value {a} p =
      let r = whole_of Ok keeps true p in
      no_block Ok keeps (tree.return (tree.one_expr a)) refl (record {
        kept = (keeps.words keyword.Return, kept_both Ok (whole a) _ (placed_kept Ok keeps Whole p) (keeps.marks punct.Semicolon, tt));
        opening = begins refl;
        room = r.1.room;
        read = λ d z le e. rw before_both (return_value (in_same_line _ (whole_opens Ok keeps p)) (r.1.read d (mark punct.Semicolon false ∷ z) le) semicolon);
      })

  pub printed_throw : {a : tree.Expr} → Printed Ok keeps a → PrintedStatement Ok keeps (tree.throw a)
  printed_throw {a} p =
      let r = whole_of Ok keeps true p in
      no_block Ok keeps (tree.throw a) refl (record {
        kept = (keeps.words keyword.Throw, kept_both Ok (whole a) _ (placed_kept Ok keeps Whole p) (keeps.marks punct.Semicolon, tt));
        opening = begins refl;
        room = r.1.room;
        read = λ d z le e. rw before_both (throw (in_same_line _ (whole_opens Ok keeps p)) (r.1.read d (mark punct.Semicolon false ∷ z) le) semicolon);
      })

  -- ---- `try`

  catch_lexemes : List ℕ → List tree.Stmt → List Lexeme
  catch_lexemes w c = Keyword keyword.Catch ∷ Punct punct.LeftParenthesis ∷ Name w ∷ Punct punct.RightParenthesis ∷ bodied (stmts_of c)

  catch_kept : (w : List ℕ) (c : List tree.Stmt) (ys : List Lexeme) → IsIdentifier Ok w → Each (PrintedStatement Ok keeps) c → AreKept Ok ys → AreKept Ok (catch_lexemes w c ++ ys)
  unfolding catch_lexemes
  catch_kept w c ys h k m = (keeps.words keyword.Catch, (keeps.marks punct.LeftParenthesis, (h.1, (keeps.marks punct.RightParenthesis, braces_kept Ok keeps (stmts_lexemes (stmts_of c)) ys (all_kept Ok keeps c k) m))))

  block_kept : (b : List tree.Stmt) (ys : List Lexeme) → Each (PrintedStatement Ok keeps) b → AreKept Ok ys → AreKept Ok (bodied (stmts_of b) ++ ys)
  block_kept b ys h m = braces_kept Ok keeps (stmts_lexemes (stmts_of b)) ys (all_kept Ok keeps b h) m

  -- a name that is caught, among its neighbours
  caught : (d : ℕ) {w : List ℕ} (b : List Lexeme) (y z : List symbols.Lexeme) (t : tree.Stmt) → IsIdentifier Ok w → Statement (Exp d) (Body d) (Stm d) (word keyword.Try false ∷ before b (word keyword.Catch false ∷ mark punct.LeftParenthesis false ∷ (symbols.identifier w, false) ∷ mark punct.RightParenthesis false ∷ y)) z t → Statement (Exp d) (Body d) (Stm d) (word keyword.Try false ∷ before b (before (Keyword keyword.Catch ∷ Punct punct.LeftParenthesis ∷ Name w ∷ Punct punct.RightParenthesis ∷ []) y)) z t
  caught d {w} b y z t h f = subst (λ x. Statement (Exp d) (Body d) (Stm d) (word keyword.Try false ∷ before b (word keyword.Catch false ∷ mark punct.LeftParenthesis false ∷ (x, false) ∷ mark punct.RightParenthesis false ∷ y)) z t) (sym h.0) f

  pub printed_try_catch : (b c : List tree.Stmt) {w : List ℕ} → Each (PrintedStatement Ok keeps) b → IsIdentifier Ok w → Each (PrintedStatement Ok keeps) c → PrintedStatement Ok keeps (tree.try (stmts_of b) (one_catch w (stmts_of c)) no_body)
  unfolding catch_lexemes
  printed_try_catch b c {w} p h q =
      let r = braces_read Ok keeps b p in
      let t = braces_read Ok keeps c q in
      no_block Ok keeps (tree.try (stmts_of b) (one_catch w (stmts_of c)) no_body) refl (record {
        kept = (keeps.words keyword.Try, block_kept b _ p (catch_kept w c [] h q tt));
        opening = begins refl;
        room = r.room + t.room;
        read = λ d z le e. rw (before_both (bodied (stmts_of b)) (catch_lexemes w c ++ []) z, before_both (bodied (stmts_of c)) [] z) (caught d (bodied (stmts_of b)) (before (bodied (stmts_of c)) z) z _ h (try_catch (r.read d _ (omega arith)) (t.read d z (omega arith)) (branch_finally (sign_at z) e)));
      })

  pub printed_try_finally : (b c : List tree.Stmt) → Each (PrintedStatement Ok keeps) b → Each (PrintedStatement Ok keeps) c → PrintedStatement Ok keeps (tree.try (stmts_of b) no_catch (one_body (stmts_of c)))
  printed_try_finally b c p q =
      let r = braces_read Ok keeps b p in
      let t = braces_read Ok keeps c q in
      no_block Ok keeps (tree.try (stmts_of b) no_catch (one_body (stmts_of c))) refl (record {
        kept = (keeps.words keyword.Try, block_kept b _ p (keeps.words keyword.Finally, all_braces_kept Ok keeps (stmts_lexemes (stmts_of c)) (all_kept Ok keeps c q)));
        opening = begins refl;
        room = r.room + t.room;
        read = λ d z le e. rw (before_both (bodied (stmts_of b)) (Keyword keyword.Finally ∷ bodied (stmts_of c)) z) (try_finally (r.read d _ (omega arith)) (t.read d z (omega arith)));
      })

  pub printed_try_both : (b c f : List tree.Stmt) {w : List ℕ} → Each (PrintedStatement Ok keeps) b → IsIdentifier Ok w → Each (PrintedStatement Ok keeps) c → Each (PrintedStatement Ok keeps) f → PrintedStatement Ok keeps (tree.try (stmts_of b) (one_catch w (stmts_of c)) (one_body (stmts_of f)))
  unfolding catch_lexemes
  printed_try_both b c f {w} p h q k =
      let r = braces_read Ok keeps b p in
      let t = braces_read Ok keeps c q in
      let u = braces_read Ok keeps f k in
      no_block Ok keeps (tree.try (stmts_of b) (one_catch w (stmts_of c)) (one_body (stmts_of f))) refl (record {
        kept = (keeps.words keyword.Try, block_kept b _ p (catch_kept w c _ h q (keeps.words keyword.Finally, all_braces_kept Ok keeps (stmts_lexemes (stmts_of f)) (all_kept Ok keeps f k))));
        opening = begins refl;
        room = r.room + (t.room + u.room);
        read = λ d z le e. rw (before_both (bodied (stmts_of b)) (catch_lexemes w c ++ Keyword keyword.Finally ∷ bodied (stmts_of f)) z, before_both (bodied (stmts_of c)) (Keyword keyword.Finally ∷ bodied (stmts_of f)) z) (caught d (bodied (stmts_of b)) (before (bodied (stmts_of c)) (word keyword.Finally false ∷ before (bodied (stmts_of f)) z)) z _ h (try_both (r.read d _ (omega arith)) (t.read d _ (omega arith)) (u.read d z (omega arith))));
      })

  -- ---- `switch`

  pub printed_switch : {a : tree.Expr} (cs : List Clause) → Printed Ok keeps a → Each (PrintedClause Ok keeps) cs → has_one_default cs ≡ true → PrintedStatement Ok keeps (tree.switch a (cases_from cs))
  printed_switch {a} cs p h one =
      let r = whole_of Ok keeps true p in
      let t = cases_read Ok keeps cs h in
      no_block Ok keeps (tree.switch a (cases_from cs)) refl (record {
        kept = (keeps.words keyword.Switch, header_kept Ok keeps (whole a) _ (placed_kept Ok keeps Whole p) (all_braces_kept Ok keeps (cases_lexemes (cases_from cs)) (cases_kept Ok keeps cs h)));
        opening = begins refl;
        room = r.1.room + t.room;
        read = λ d z le e. rw (before_header (whole a) (braced (cases_lexemes (cases_from cs))) z, before_both (cases_lexemes (cases_from cs)) (Punct punct.RightBrace ∷ []) z) (switch (r.1.read d _ (omega arith)) (t.read d z (omega arith)) one);
      })
