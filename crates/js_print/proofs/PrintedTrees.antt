-- Each tree that keeps the rules on trees is printed as one that is read.
use Rattle.std.proofs.Common.{◌≡◌, ℕ, zero, suc, ◌≤◌, Bool, true, false, List, [], ◌∷◌, ◌++◌, Option, Some, None, refl, sym, subst, ap, arith}
use Rattle.std.specs.Prelude.{if◌then◌else◌, not, ◌&&◌, ◌||◌, is_some, IsTrue}
use Rattle.std.specs.List.{list_all}
use Rattle.std.proofs.lemmas.Bool.{and_parts}
use Rattle.js_core.specs.Tree as tree
use Rattle.js_core.specs.Tree.{exprs_of, maybe_expr, holes_of, fields_of, stmts_of}
use Rattle.js_core.specs.Spelling.{keyword_of, is_unused_word}
use Rattle.js_core.specs.Views.{declarators_of}
use Rattle.js_core.specs.declared.syntax.Declarator.{Declarator}
use Rattle.js_core.specs.declared.operators.BinaryOp.{BinaryOp}
use Rattle.js_core.specs.declared.operators.BinaryOp.TheVariants as op
use Rattle.js_core.specs.declared.token.TokenKind.{TokenKind}
use Rattle.js_core.specs.declared.token.TokenKind.TheVariants as kind
use Rattle.js_core.specs.declared.keyword.Keyword.{Keyword as Reserved}
use Rattle.js_core.specs.declared.keyword.Keyword.TheVariants as keyword
use Rattle.js_lexer.specs.Written.{is_identifier_name, can_be_written}
use Rattle.js_grammar.specs.declared.sign.Sign.TheVariants as signs
use Rattle.js_grammar.specs.Symbols as symbols
use Rattle.js_grammar.specs.Symbols.{sign, identifier, unused, word_symbol, member_name, sign_at}
use Rattle.js_grammar.specs.Operators.{assignment_of}
use Rattle.js_grammar.specs.Phrases.{Phrase}
use Rattle.js_grammar.specs.Statements.{Clause, cases_from, Element, is_statement, declaration}
use Rattle.js_grammar.specs.Statements as clauses
use Rattle.js_grammar.specs.Scripts as parts
use Rattle.js_grammar.specs.Scripts.{Nested}
use Rattle.js_grammar.specs.Syntax.{is_identifier, is_maybe_identifier, are_several, are_some, assigns, has_one_default, IsExpr, AreExprs, IsMaybeExpr, AreHoles, AreFields, IsCode, IsStmt, AreStmts, AreDeclarators, IsInit, AreCases}
use Rattle.js_grammar.proofs.Callers.{same_one_default}
use Rattle.js_print.specs.declared.lexeme.Lexeme.{Lexeme}
use Rattle.js_print.specs.Lexemes.{maybe_name, stmts_lexemes}
use Rattle.js_print.specs.Operators.{assign_punct}
use Rattle.js_print.proofs.Reserved.{keyword_can_be_written}
use Rattle.js_print.proofs.PrintedSymbols.{before, Keeps, AreKept, IsIdentifier, IsName, keyword_spelled}
use Rattle.js_print.proofs.PrintedReads.{Exp, Body, Stm, Each}
use Rattle.js_print.proofs.PrintedPlaces.{Printed}
use Rattle.js_print.proofs.PrintedLists.{PrintedHole, PrintedField}
use Rattle.js_print.proofs.PrintedExpressions.{is_branch, PrintedBody, PrintedCode, printed_code, printed_this, printed_null, printed_bool, printed_name, printed_number, printed_text, printed_list, printed_literal, printed_anonymous, printed_function, printed_member, printed_index, printed_call, printed_construct, printed_unary, printed_step, printed_stepped, printed_binary, printed_and, printed_or, printed_conditional, printed_assign, printed_sequence}
use Rattle.js_print.proofs.PrintedBlocks.{Begins, begins, PrintedAs, PrintedStatement, ReadsMany, stmts_kept, stmts_read, printed_block}
use Rattle.js_print.proofs.PrintedDeclarations.{PrintedDeclarator, PrintedInit, printed_nothing, printed_variables, printed_init, PrintedClause}
use Rattle.js_print.proofs.PrintedStatements.{printed_variable, printed_expression, printed_empty, printed_conditional as printed_if, printed_alternative, printed_do_while, printed_while, printed_for, printed_for_in, printed_for_in_variable, printed_continue, printed_break, printed_return, printed_return_value, printed_throw, printed_try_catch, printed_try_finally, printed_try_both, printed_switch}

-- what is printed can be written

abbrev pub Ok : TokenKind → Type 0
Ok k = IsTrue (can_be_written k)

pub keeps : Keeps Ok
keeps = record { words = keyword_can_be_written; marks = λ p. refl }

-- ---- words

free_symbol : (w : List ℕ) (o : Option Reserved) → not (is_some o || is_unused_word w) ≡ true → word_symbol w o ≡ identifier w
free_symbol w (Some k) e = absurd (cc)
free_symbol w None e = by (is_unused_word w) e
  where
    by : (b : Bool) → not (false || b) ≡ true → (if b then unused w else identifier w) ≡ identifier w
    by true e = absurd (cc)
    by false e = refl

pub identified : (w : List ℕ) → is_identifier w ≡ true → IsIdentifier Ok w
identified w h = (free_symbol w (keyword_of w) (and_parts (can_be_written (kind.Word w)) _ h).1, (and_parts _ _ h).0)

member_symbol : (w : List ℕ) (o : Option Reserved) → keyword_of w ≡ o → member_name (word_symbol w o) ≡ Some w
member_symbol w (Some k) e = ap (λ v. Some v) (sym (keyword_spelled w k e))
member_symbol w None e = by (is_unused_word w)
  where
    by : (b : Bool) → member_name (if b then unused w else identifier w) ≡ Some w
    by true = refl
    by false = refl

all_identified : (ws : List (List ℕ)) → list_all is_identifier ws ≡ true → Each (IsIdentifier Ok) ws
all_identified [] h = tt
all_identified (w ∷ ws) h = (identified w (and_parts _ _ h).0, all_identified ws (and_parts (is_identifier w) _ h).1)

assigned : (f : Option BinaryOp) → assigns f ≡ true → assignment_of (Some (signs.Mark (assign_punct f))) ≡ Some f
assigned None e = refl
assigned (Some op.Mul) e = refl
assigned (Some op.Div) e = refl
assigned (Some op.Rem) e = refl
assigned (Some op.Add) e = refl
assigned (Some op.Sub) e = refl
assigned (Some op.Shl) e = refl
assigned (Some op.Shr) e = refl
assigned (Some op.Ushr) e = refl
assigned (Some op.BitAnd) e = refl
assigned (Some op.BitXor) e = refl
assigned (Some op.BitOr) e = refl
assigned (Some _) e = absurd (cc)

-- ---- parts of a tree as lists

abbrev pub Elements : ℕ → Phrase tree.Stmt
Elements d = Element (Exp d) (Body d) (Stm d)

record FoundExprs (es : tree.Exprs) : Type 0 where
  found : List tree.Expr
  same : exprs_of found ≡ es
  all : Each (Printed Ok keeps) found

record FoundHole (e : tree.MaybeExpr) : Type 0 where
  found : Option tree.Expr
  same : maybe_expr found ≡ e
  is : PrintedHole Ok keeps found

record FoundHoles (es : tree.Holes) : Type 0 where
  found : List (Option tree.Expr)
  same : holes_of found ≡ es
  all : Each (PrintedHole Ok keeps) found

record FoundFields (fs : tree.Fields) : Type 0 where
  found : List (List ℕ × tree.Expr)
  same : fields_of found ≡ fs
  all : Each (PrintedField Ok keeps) found

record FoundDeclarators (ds : tree.Declarators) : Type 0 where
  found : List Declarator
  same : declarators_of found ≡ ds
  all : Each (PrintedDeclarator Ok keeps) found

record FoundStmts (ss : tree.Stmts) : Type 0 where
  found : List tree.Stmt
  same : stmts_of found ≡ ss
  all : Each (PrintedStatement Ok keeps) found

record FoundCases (cs : tree.Cases) : Type 0 where
  found : List Clause
  same : cases_from found ≡ cs
  all : Each (PrintedClause Ok keeps) found

-- what stands between the braces of a function, or is a script
pub record FoundElements (ss : tree.Stmts) : Type 0 where
  pub found : List tree.Stmt
  pub same : stmts_of found ≡ ss
  pub all : Each (PrintedAs Ok keeps Elements) found

-- ---- forms over lists

sequence_printed : (found : List tree.Expr) → Each (Printed Ok keeps) found → are_several (exprs_of found) ≡ true → Printed Ok keeps (tree.comma (exprs_of found))
sequence_printed [] h e = absurd (cc)
sequence_printed (a ∷ []) h e = absurd (cc)
sequence_printed (a ∷ b ∷ es) h e = printed_sequence Ok keeps a (b ∷ es) h.0 h.1

variables_printed : (found : List Declarator) → Each (PrintedDeclarator Ok keeps) found → are_some (declarators_of found) ≡ true → PrintedInit Ok keeps (tree.init_var (declarators_of found))
variables_printed [] h e = absurd (cc)
variables_printed (c ∷ cs) h e = printed_variables Ok keeps c cs h.0 h.1

variable_printed : (found : List Declarator) → Each (PrintedDeclarator Ok keeps) found → are_some (declarators_of found) ≡ true → PrintedStatement Ok keeps (tree.var (declarators_of found))
variable_printed [] h e = absurd (cc)
variable_printed (c ∷ cs) h e = printed_variable Ok keeps c cs h.0 h.1

block_printed : {ss : tree.Stmts} → FoundStmts ss → PrintedStatement Ok keeps (tree.block ss)
block_printed r = subst (λ ss. PrintedStatement Ok keeps (tree.block ss)) r.same (printed_block Ok keeps r.found r.all)

body_printed : (found : List tree.Stmt) → Each (PrintedAs Ok keeps Elements) found → PrintedBody Ok keeps found
body_printed found h = record { kept = stmts_kept Ok keeps Elements found h; room = suc r.room; read = by }
  where
    r : ReadsMany Ok keeps Elements found
    r = stmts_read Ok keeps Elements found h

    by : (d : ℕ) (z : List symbols.Lexeme) → suc r.room ≤ d → is_branch (sign_at z) ≡ false → Nested d parts.body (before (stmts_lexemes (stmts_of found)) z) z found
    by zero z le e = absurd (omega arith)
    by (suc d) z le e = r.read d z (omega arith) e

pub elements_body : {ss : tree.Stmts} (r : FoundElements ss) → PrintedBody Ok keeps r.found
elements_body r = body_printed r.found r.all

code_printed : (own : Option (List ℕ)) (formals : List (List ℕ)) {body : tree.Stmts} → list_all is_identifier formals ≡ true → FoundElements body → PrintedCode Ok keeps own (tree.code own formals body)
code_printed own formals h r = subst (λ ss. PrintedCode Ok keeps own (tree.code own formals ss)) r.same (printed_code Ok keeps own (all_identified formals h) (elements_body r))

func_printed : (own : Option (List ℕ)) {c : tree.Code} → is_maybe_identifier own ≡ true → PrintedCode Ok keeps own c → Printed Ok keeps (tree.func c)
func_printed None h p = printed_anonymous Ok keeps p
func_printed (Some w) h p = printed_function Ok keeps (identified w h) p

declaration_printed : (w : List ℕ) (c : tree.Code) → IsIdentifier Ok w → PrintedCode Ok keeps (Some w) c → PrintedAs Ok keeps Elements (tree.function c)
declaration_printed w c h p =
    let r = p.reads in
    record {
      kept = subst (AreKept Ok) (sym p.same) (keeps.words keyword.Function, (h.1, p.kept));
      opening = subst Begins (sym p.same) (begins refl);
      room = r.room;
      read = λ d z le e.
          subst (λ xs. Elements d (before xs z) z (tree.function c)) (sym p.same)
          (subst (λ s. Elements d ((sign (signs.Word keyword.Function), false) ∷ (s, false) ∷ before p.rest z) z (tree.function c)) (sym h.0) (declaration (r.read d z le)));
    }

statement_element : {s : tree.Stmt} → PrintedStatement Ok keeps s → PrintedAs Ok keeps Elements s
statement_element p = let q = p.alone in record { kept = q.kept; opening = q.opening; room = q.room; read = λ d z le e. is_statement (q.read d z le e) }

element_then : {s : tree.Stmt} {ss : tree.Stmts} → PrintedAs Ok keeps Elements s → FoundElements ss → FoundElements (tree.then_stmt s ss)
element_then {s} p r = record { found = s ∷ r.found; same = ap (λ ss. tree.then_stmt s ss) r.same; all = (p, r.all) }

switch_printed : {a : tree.Expr} {cs : tree.Cases} → Printed Ok keeps a → has_one_default cs ≡ true → FoundCases cs → PrintedStatement Ok keeps (tree.switch a cs)
switch_printed {a} p e r =
    let one = subst (λ cs. has_one_default cs ≡ true) (sym r.same) e in
    subst (λ cs. PrintedStatement Ok keeps (tree.switch a cs)) r.same (printed_switch Ok keeps r.found p r.all (subst (λ b. b ≡ true) (same_one_default r.found) one))

-- ---- all trees

mutual
  expr_printed : (a : tree.Expr) → IsExpr a → Printed Ok keeps a
  expr_printed (tree.name w) h = printed_name Ok keeps (identified w h)
  expr_printed (tree.num n) h = printed_number Ok keeps h
  expr_printed (tree.text t) h = printed_text Ok keeps h
  expr_printed (tree.bool b) h = printed_bool Ok keeps b
  expr_printed tree.null h = printed_null Ok keeps
  expr_printed tree.this h = printed_this Ok keeps
  expr_printed (tree.list es) h = let r = holes_found es h in subst (λ es. Printed Ok keeps (tree.list es)) r.same (printed_list Ok keeps r.found r.all)
  expr_printed (tree.literal fs) h = let r = fields_found fs h in subst (λ fs. Printed Ok keeps (tree.literal fs)) r.same (printed_literal Ok keeps r.found r.all)
  expr_printed (tree.func (tree.code own formals body)) h = func_printed own h.0 (code_printed own formals h.1 (elements_found body h.2))
  expr_printed (tree.member a w) h = printed_member Ok keeps (expr_printed a h.0) (member_symbol w (keyword_of w) refl, h.1)
  expr_printed (tree.index a b) h = printed_index Ok keeps (expr_printed a h.0) (expr_printed b h.1)
  expr_printed (tree.call f es) h = let r = exprs_found es h.1 in subst (λ es. Printed Ok keeps (tree.call f es)) r.same (printed_call Ok keeps r.found (expr_printed f h.0) r.all)
  expr_printed (tree.construct f es) h = let r = exprs_found es h.1 in subst (λ es. Printed Ok keeps (tree.construct f es)) r.same (printed_construct Ok keeps r.found (expr_printed f h.0) r.all)
  expr_printed (tree.unary f a) h = printed_unary Ok keeps f (expr_printed a h)
  expr_printed (tree.update up true a) h = printed_step Ok keeps up (expr_printed a h)
  expr_printed (tree.update up false a) h = printed_stepped Ok keeps up (expr_printed a h)
  expr_printed (tree.binary f a b) h = printed_binary Ok keeps f (expr_printed a h.0) (expr_printed b h.1)
  expr_printed (tree.logical_and a b) h = printed_and Ok keeps (expr_printed a h.0) (expr_printed b h.1)
  expr_printed (tree.logical_or a b) h = printed_or Ok keeps (expr_printed a h.0) (expr_printed b h.1)
  expr_printed (tree.conditional a b c) h = printed_conditional Ok keeps (expr_printed a h.0) (expr_printed b h.1) (expr_printed c h.2)
  expr_printed (tree.assign f a b) h = printed_assign Ok keeps f (assigned f h.0) (expr_printed a h.1) (expr_printed b h.2)
  expr_printed (tree.comma es) h =
      let r = exprs_found es h.1 in
      subst (λ es. Printed Ok keeps (tree.comma es)) r.same (sequence_printed r.found r.all (subst (λ es. are_several es ≡ true) (sym r.same) h.0))

  exprs_found : (es : tree.Exprs) → AreExprs es → FoundExprs es
  exprs_found tree.no_exprs h = record { found = []; same = refl; all = tt }
  exprs_found (tree.then_expr a es) h = let r = exprs_found es h.1 in record { found = a ∷ r.found; same = ap (λ es. tree.then_expr a es) r.same; all = (expr_printed a h.0, r.all) }

  hole_found : (e : tree.MaybeExpr) → IsMaybeExpr e → FoundHole e
  hole_found tree.no_expr h = record { found = None; same = refl; is = tt }
  hole_found (tree.one_expr a) h = record { found = Some a; same = refl; is = expr_printed a h }

  holes_found : (es : tree.Holes) → AreHoles es → FoundHoles es
  holes_found tree.no_holes h = record { found = []; same = refl; all = tt }
  holes_found (tree.then_hole e es) h =
      let m = hole_found e h.0 in
      let r = holes_found es h.1 in
      record { found = m.found ∷ r.found; same = rw (m.same, r.same) refl; all = (m.is, r.all) }

  fields_found : (fs : tree.Fields) → AreFields fs → FoundFields fs
  fields_found tree.no_fields h = record { found = []; same = refl; all = tt }
  fields_found (tree.then_field w a fs) h =
      let r = fields_found fs h.2 in
      record { found = (w, a) ∷ r.found; same = ap (λ fs. tree.then_field w a fs) r.same; all = ((h.0, expr_printed a h.1), r.all) }

  elements_found : (ss : tree.Stmts) → AreStmts true ss → FoundElements ss
  elements_found tree.no_stmts h = record { found = []; same = refl; all = tt }
  elements_found (tree.then_stmt (tree.function (tree.code None formals body)) ss) h = absurd (let e = h.0.0 in cc)
  elements_found (tree.then_stmt (tree.function (tree.code (Some w) formals body)) ss) h =
      element_then (declaration_printed w (tree.code (Some w) formals body) (identified w h.0.1.0) (code_printed (Some w) formals h.0.1.1 (elements_found body h.0.1.2))) (elements_found ss h.1)
  elements_found (tree.then_stmt s ss) h = element_then (statement_element (stmt_printed s h.0)) (elements_found ss h.1)

  stmt_printed : (s : tree.Stmt) → IsStmt false s → PrintedStatement Ok keeps s
  stmt_printed (tree.var ds) h =
      let r = declarators_found ds h.1 in
      subst (λ ds. PrintedStatement Ok keeps (tree.var ds)) r.same (variable_printed r.found r.all (subst (λ ds. are_some ds ≡ true) (sym r.same) h.0))
  stmt_printed (tree.function c) h = absurd (let e = h.0 in cc)
  stmt_printed (tree.expr a) h = printed_expression Ok keeps (expr_printed a h)
  stmt_printed tree.empty h = printed_empty Ok keeps
  stmt_printed (tree.block ss) h = block_printed (stmts_found ss h)
  stmt_printed (tree.if_else a ss tree.no_body) h = printed_if Ok keeps (tree.block ss) (expr_printed a h.0) (block_printed (stmts_found ss h.1))
  stmt_printed (tree.if_else a ss (tree.one_body us)) h =
      printed_alternative Ok keeps (tree.block ss) (tree.block us) (expr_printed a h.0) (block_printed (stmts_found ss h.1)) (block_printed (stmts_found us h.2))
  stmt_printed (tree.do_while ss a) h = printed_do_while Ok keeps (tree.block ss) (expr_printed a h.1) (block_printed (stmts_found ss h.0))
  stmt_printed (tree.while a ss) h = printed_while Ok keeps (tree.block ss) (expr_printed a h.0) (block_printed (stmts_found ss h.1))
  stmt_printed (tree.for i t s ss) h =
      let m = hole_found t h.1 in
      let n = hole_found s h.2 in
      subst (λ e. PrintedStatement Ok keeps (tree.for i e s ss)) m.same
      (subst (λ e. PrintedStatement Ok keeps (tree.for i (maybe_expr m.found) e ss)) n.same
      (printed_for Ok keeps m.found n.found (tree.block ss) (init_printed i h.0) m.is n.is (block_printed (stmts_found ss h.3))))
  stmt_printed (tree.for_in false a o ss) h = printed_for_in Ok keeps (tree.block ss) (expr_printed a h.1) (expr_printed o h.2) (block_printed (stmts_found ss h.3))
  stmt_printed (tree.for_in true (tree.name w) o ss) h = printed_for_in_variable Ok keeps (tree.block ss) (identified w h.1) (expr_printed o h.2) (block_printed (stmts_found ss h.3))
  stmt_printed (tree.for_in true a o ss) h = absurd (let e = h.0 in cc)
  stmt_printed tree.continue h = printed_continue Ok keeps
  stmt_printed tree.break h = printed_break Ok keeps
  stmt_printed (tree.return tree.no_expr) h = printed_return Ok keeps
  stmt_printed (tree.return (tree.one_expr a)) h = printed_return_value Ok keeps (expr_printed a h)
  stmt_printed (tree.throw a) h = printed_throw Ok keeps (expr_printed a h)
  stmt_printed (tree.try ss tree.no_catch tree.no_body) h = absurd (let e = h.0 in cc)
  stmt_printed (tree.try ss tree.no_catch (tree.one_body us)) h =
      let r = stmts_found ss h.1 in
      let t = stmts_found us h.3 in
      subst (λ v. PrintedStatement Ok keeps (tree.try v tree.no_catch (tree.one_body us))) r.same
      (subst (λ v. PrintedStatement Ok keeps (tree.try (stmts_of r.found) tree.no_catch (tree.one_body v))) t.same (printed_try_finally Ok keeps r.found t.found r.all t.all))
  stmt_printed (tree.try ss (tree.one_catch w cs) tree.no_body) h =
      let r = stmts_found ss h.1 in
      let t = stmts_found cs h.2.1 in
      subst (λ v. PrintedStatement Ok keeps (tree.try v (tree.one_catch w cs) tree.no_body)) r.same
      (subst (λ v. PrintedStatement Ok keeps (tree.try (stmts_of r.found) (tree.one_catch w v) tree.no_body)) t.same (printed_try_catch Ok keeps r.found t.found r.all (identified w h.2.0) t.all))
  stmt_printed (tree.try ss (tree.one_catch w cs) (tree.one_body us)) h =
      let r = stmts_found ss h.1 in
      let t = stmts_found cs h.2.1 in
      let u = stmts_found us h.3 in
      subst (λ v. PrintedStatement Ok keeps (tree.try v (tree.one_catch w cs) (tree.one_body us))) r.same
      (subst (λ v. PrintedStatement Ok keeps (tree.try (stmts_of r.found) (tree.one_catch w v) (tree.one_body us))) t.same
      (subst (λ v. PrintedStatement Ok keeps (tree.try (stmts_of r.found) (tree.one_catch w (stmts_of t.found)) (tree.one_body v))) u.same
      (printed_try_both Ok keeps r.found t.found u.found r.all (identified w h.2.0) t.all u.all)))
  stmt_printed (tree.switch a cs) h = switch_printed (expr_printed a h.0) h.1 (cases_found cs h.2)

  stmts_found : (ss : tree.Stmts) → AreStmts false ss → FoundStmts ss
  stmts_found tree.no_stmts h = record { found = []; same = refl; all = tt }
  stmts_found (tree.then_stmt s ss) h = let r = stmts_found ss h.1 in record { found = s ∷ r.found; same = ap (λ ss. tree.then_stmt s ss) r.same; all = (stmt_printed s h.0, r.all) }

  declarators_found : (ds : tree.Declarators) → AreDeclarators ds → FoundDeclarators ds
  declarators_found tree.no_declarators h = record { found = []; same = refl; all = tt }
  declarators_found (tree.then_declarator w e ds) h =
      let m = hole_found e h.1 in
      let r = declarators_found ds h.2 in
      record { found = record { name = w; value = m.found } ∷ r.found; same = rw (m.same, r.same) refl; all = ((identified w h.0, m.is), r.all) }

  init_printed : (i : tree.ForInit) → IsInit i → PrintedInit Ok keeps i
  init_printed tree.no_init h = printed_nothing Ok keeps
  init_printed (tree.init_var ds) h =
      let r = declarators_found ds h.1 in
      subst (λ ds. PrintedInit Ok keeps (tree.init_var ds)) r.same (variables_printed r.found r.all (subst (λ ds. are_some ds ≡ true) (sym r.same) h.0))
  init_printed (tree.init_expr a) h = printed_init Ok keeps (expr_printed a h)

  cases_found : (cs : tree.Cases) → AreCases cs → FoundCases cs
  cases_found tree.no_cases h = record { found = []; same = refl; all = tt }
  cases_found (tree.then_case e ss cs) h =
      let m = hole_found e h.0 in
      let t = stmts_found ss h.1 in
      let r = cases_found cs h.2 in
      record { found = (m.found, t.found) ∷ r.found; same = rw (m.same, t.same, r.same) refl; all = ((m.is, t.all), r.all) }

pub script_printed : (ss : tree.Stmts) → AreStmts true ss → FoundElements ss
script_printed ss h = elements_found ss h

pub function_printed : (own : Option (List ℕ)) (formals : List (List ℕ)) (body : tree.Stmts) → IsCode (tree.code own formals body) → PrintedCode Ok keeps own (tree.code own formals body)
function_printed own formals body h = code_printed own formals h.1 (elements_found body h.2)

-- the name of a function among lexemes
pub own_kept : (own : Option (List ℕ)) (xs : List Lexeme) → is_maybe_identifier own ≡ true → AreKept Ok xs → AreKept Ok (maybe_name own ++ xs)
own_kept None xs h k = k
own_kept (Some w) xs h k = ((and_parts _ _ h).0, k)
