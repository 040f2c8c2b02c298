-- The tree of a script that literal symbols have is literal.
use Rattle.std.proofs.Common.{ℕ, zero, suc, Bool, true, false, List, [], ◌∷◌, Some, subst}
use Rattle.js_core.specs.Tree as tree
use Rattle.js_core.specs.Tree.{stmts_of}
use Rattle.js_core.specs.Views.{declarators_of}
use Rattle.js_core.specs.declared.syntax.Declarator.{Declarator}
use Rattle.js_core.specs.declared.token.Token.{Token}
use Rattle.js_grammar.specs.declared.ending.Ending.{Ending}
use Rattle.js_grammar.specs.declared.operators.Level.{Level}
use Rattle.js_grammar.specs.Symbols.{Lexeme, lexemes}
use Rattle.js_grammar.specs.Phrases.{Phrase, Many}
use Rattle.js_grammar.specs.Statements.{End, semicolon, automatic, body_of, Clause, cases_from, Declaration, bare, initialised, Braced, braced, Maybe, missing, present, Init, nothing, variables, expression, Case, case, default, Statement, block, variable, empty, expressed, conditional, alternative, do_while, while, for_loop, for_in, for_in_variable, continue, break, return, return_value, throw, try_catch, try_finally, try_both, switch, Element, is_statement, declaration}
use Rattle.js_grammar.specs.Scripts as parts
use Rattle.js_grammar.specs.Scripts.{Nested, Derives}
use Rattle.literal_values.specs.Trees.{LiteralCases, LiteralDeclarators, LiteralInit, LiteralStmt, LiteralStmts}
use Rattle.literal_values.specs.Values.{IsName}
use Rattle.literal_values.proofs.Callers.{name_text}
use Rattle.literal_pages.proofs.ScriptExpressions.{Each, IsHole, Makes, many_make, separated_make, LiteralInside, procedure_makes, left_makes, assignment_makes, sequence_makes, level_makes}
use Rattle.literal_pages.proofs.ScriptSymbols.{AreLiteral}

-- ---- lists as parts of a tree

are_stmts : (ss : List tree.Stmt) → Each LiteralStmt ss → LiteralStmts (stmts_of ss)
are_stmts [] h = tt
are_stmts (s ∷ ss) h = (h.0, are_stmts ss h.1)

IsDeclarator : Declarator → Type 0
IsDeclarator d = IsName d.name × IsHole d.value

are_declarators : (ds : List Declarator) → Each IsDeclarator ds → LiteralDeclarators (declarators_of ds)
unfolding IsDeclarator
are_declarators [] h = tt
are_declarators (d ∷ ds) h = (h.0.0, h.0.1, are_declarators ds h.1)

IsClause : Clause → Type 0
IsClause c = IsHole c.0 × LiteralStmts (stmts_of c.1)

are_cases : (cs : List Clause) → Each IsClause cs → LiteralCases (cases_from cs)
unfolding IsClause
are_cases [] h = tt
are_cases (c ∷ cs) h = (h.0.0, h.0.1, are_cases cs h.1)

-- a statement as the body of another
body_is : (s : tree.Stmt) → LiteralStmt s → LiteralStmts (body_of s)
body_is (tree.block ss) h = h
body_is (tree.var _) h = (h, tt)
body_is (tree.function _) h = (h, tt)
body_is (tree.expr _) h = (h, tt)
body_is tree.empty h = (h, tt)
body_is (tree.if_else _ _ _) h = (h, tt)
body_is (tree.do_while _ _) h = (h, tt)
body_is (tree.while _ _) h = (h, tt)
body_is (tree.for _ _ _ _) h = (h, tt)
body_is (tree.for_in _ _ _ _) h = (h, tt)
body_is tree.continue h = (h, tt)
body_is tree.break h = (h, tt)
body_is (tree.return _) h = (h, tt)
body_is (tree.throw _) h = (h, tt)
body_is (tree.try _ _ _) h = (h, tt)
body_is (tree.switch _ _) h = (h, tt)

end_literal : {e : Ending} {x z : List Lexeme} → End e x z → AreLiteral x → AreLiteral z
end_literal semicolon g = g.1
end_literal (automatic m) g = g

-- ---- phrases

module _ (E : Bool → Level → Bool → Phrase tree.Expr) (B : Phrase (List tree.Stmt)) (S : Phrase tree.Stmt) (inner : LiteralInside E B) (statements : Makes LiteralStmt S) where
  declaration_makes : (inn : Bool) (e : Ending) → Makes IsDeclarator (Declaration E B S inn e)
  unfolding IsDeclarator
  declaration_makes inn e x z c bare g = ((g.0.0, tt), g.1)
  declaration_makes inn e x z c (initialised {a = a} h) g = let r = assignment_makes E B inner inn _ _ _ a h g.1.1 in ((g.0.0, r.0), r.1)

  braced_makes : Makes (λ found. LiteralStmts (stmts_of found)) (Braced E B S)
  braced_makes x z found (braced h) g = let r = many_make S statements h g.1 in (are_stmts found r.0, r.1.1)

  maybe_makes : Makes IsHole (Maybe E B S)
  maybe_makes x z o missing g = (tt, g)
  maybe_makes x z o (present {a = a} h) g = sequence_makes E B inner true _ _ _ a h g

  init_makes : Makes LiteralInit (Init E B S)
  init_makes x z i nothing g = (tt, g)
  init_makes x z i (variables {found = found} h) g =
      let r = separated_make (Declaration E B S false) (declaration_makes false) h g.1 in
      (are_declarators found r.0, r.1)
  init_makes x z i (expression {a = a} h) g = sequence_makes E B inner false _ _ _ a h g

  case_makes : Makes IsClause (Case E B S)
  unfolding IsClause
  case_makes x z c (case {a = a} {found = found} h k) g =
      let r = sequence_makes E B inner true _ _ _ a h g.1 in
      let s = many_make S statements k r.1.1 in
      ((r.0, are_stmts found s.0), s.1)
  case_makes x z c (default {found = found} h) g = let s = many_make S statements h g.1.1 in ((tt, are_stmts found s.0), s.1)

  statement_makes : Makes LiteralStmt (Statement E B S)
  statement_makes x z t (block {found = found} h) g = braced_makes _ _ found h g
  statement_makes x z t (variable {found = found} h k) g =
      let r = separated_make (Declaration E B S true) (declaration_makes true) h g.1 in
      (are_declarators found r.0, end_literal k r.1)
  statement_makes x z t empty g = (tt, g.1)
  statement_makes x z t (expressed {a = a} e h k) g =
      let r = sequence_makes E B inner true _ _ _ a h g in
      (r.0, end_literal k r.1)
  statement_makes x z t (conditional {a = a} {s = s} h k e) g =
      let r = sequence_makes E B inner true _ _ _ a h g.1.1 in
      let b = statements _ _ s k r.1.1 in
      ((r.0, body_is s b.0, tt), b.1)
  statement_makes x z t (alternative {a = a} {s = s} {t = u} h k m) g =
      let r = sequence_makes E B inner true _ _ _ a h g.1.1 in
      let b = statements _ _ s k r.1.1 in
      let c = statements _ _ u m b.1.1 in
      ((r.0, body_is s b.0, body_is u c.0), c.1)
  statement_makes x z t (do_while {a = a} {s = s} k h e) g =
      let b = statements _ _ s k g.1 in
      let r = sequence_makes E B inner true _ _ _ a h b.1.1.1 in
      ((body_is s b.0, r.0), end_literal e r.1.1)
  statement_makes x z t (while {a = a} {s = s} h k) g =
      let r = sequence_makes E B inner true _ _ _ a h g.1.1 in
      let b = statements _ _ s k r.1.1 in
      ((r.0, body_is s b.0), b.1)
  statement_makes x z t (for_loop {init = init} {test = test} {next = next} {s = s} h i j k) g =
      let r = init_makes _ _ init h g.1.1 in
      let m = maybe_makes _ _ test i r.1.1 in
      let n = maybe_makes _ _ next j m.1.1 in
      let b = statements _ _ s k n.1.1 in
      ((r.0, m.0, n.0, body_is s b.0), b.1)
  statement_makes x z t (for_in {a = a} {o = o} {s = s} h i k) g =
      let r = left_makes E B inner true _ _ a h g.1.1 in
      let m = sequence_makes E B inner true _ _ _ o i r.1.1 in
      let b = statements _ _ s k m.1.1 in
      ((r.0, m.0, body_is s b.0), b.1)
  statement_makes x z t (for_in_variable {o = o} {s = s} i k) g =
      let m = sequence_makes E B inner true _ _ _ o i g.1.1.1.1.1 in
      let b = statements _ _ s k m.1.1 in
      ((g.1.1.1.0.0, m.0, body_is s b.0), b.1)
  statement_makes x z t (continue e) g = (tt, end_literal e g.1)
  statement_makes x z t (break e) g = (tt, end_literal e g.1)
  statement_makes x z t (return e) g = (tt, end_literal e g.1)
  statement_makes x z t (return_value {a = a} l h e) g =
      let r = sequence_makes E B inner true _ _ _ a h g.1 in
      (r.0, end_literal e r.1)
  statement_makes x z t (throw {a = a} l h e) g =
      let r = sequence_makes E B inner true _ _ _ a h g.1 in
      (r.0, end_literal e r.1)
  statement_makes x z t (try_catch {b = b} {c = c} h k e) g =
      let r = braced_makes _ _ b h g.1 in
      let s = braced_makes _ _ c k r.1.1.1.1.1 in
      ((r.0, (name_text _ r.1.1.1.0.0, s.0), tt), s.1)
  statement_makes x z t (try_finally {b = b} {d = c} h k) g =
      let r = braced_makes _ _ b h g.1 in
      let s = braced_makes _ _ c k r.1.1 in
      ((r.0, tt, s.0), s.1)
  statement_makes x z t (try_both {b = b} {c = c} {d = f} h k m) g =
      let r = braced_makes _ _ b h g.1 in
      let s = braced_makes _ _ c k r.1.1.1.1.1 in
      let u = braced_makes _ _ f m s.1.1 in
      ((r.0, (name_text _ r.1.1.1.0.0, s.0), u.0), u.1)
  statement_makes x z t (switch {a = a} {found = found} h k e) g =
      let r = sequence_makes E B inner true _ _ _ a h g.1.1 in
      let s = many_make (Case E B S) case_makes k r.1.1.1 in
      ((r.0, are_cases found s.0), s.1.1)

  -- ---- what stands between the braces of a function, or is a script

  element_makes : Makes LiteralStmt (Element E B S)
  element_makes x z s (is_statement h) g = statement_makes _ _ s h g
  element_makes x z s (declaration {w = w} {c = c} h) g =
      procedure_makes E B inner (Some w) (name_text w g.1.0.0) _ _ c h g.1.1

  body_makes : Makes (λ found. LiteralStmts (stmts_of found)) (Many (Element E B S))
  body_makes x z found h g = let r = many_make (Element E B S) element_makes h g in (are_stmts found r.0, r.1)

-- ---- however deep

abbrev Exp : ℕ → Bool → Level → Bool → Phrase tree.Expr
Exp d = λ inn level grows. Nested d (parts.expression inn level grows)

record Deep (d : ℕ) : Type 0 where
  inner : LiteralInside (Exp d) (Nested d parts.body)
  statements : Makes LiteralStmt (Nested d parts.statement)

all : (d : ℕ) → Deep d
all zero =
    record {
      inner = record { expressions = λ inn l g x z a h k. absurd h; bodies = λ x z found h k. absurd h };
      statements = λ x z s h k. absurd h;
    }
all (suc d) =
    let i = all d in
    record {
      inner = record { expressions = level_makes (Exp d) (Nested d parts.body) i.inner; bodies = body_makes (Exp d) (Nested d parts.body) (Nested d parts.statement) i.inner i.statements };
      statements = statement_makes (Exp d) (Nested d parts.body) (Nested d parts.statement) i.inner i.statements;
    }

pub derived_is_literal : (tokens : List Token) (script : tree.Stmts) → AreLiteral (lexemes tokens) → Derives tokens script → LiteralStmts script
derived_is_literal tokens script w h =
    let i = (all h.0).inner in
    let r = i.bodies (lexemes tokens) [] h.1 h.2 w in
    subst LiteralStmts h.3 r.0
