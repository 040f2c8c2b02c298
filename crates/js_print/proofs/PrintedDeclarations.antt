-- What stands in statements is printed as it is read: declarators, headers of `for`, clauses of `switch`.
use Rattle.std.proofs.Common.{◌≡◌, ℕ, ◌+◌, Bool, true, false, List, [], ◌∷◌, ◌++◌, Option, Some, None, refl, sym, subst, arith}
use Rattle.js_core.specs.Tree as tree
use Rattle.js_core.specs.Tree.{maybe_expr, stmts_of}
use Rattle.js_core.specs.Views.{declarators_of}
use Rattle.js_core.specs.declared.syntax.Declarator.{Declarator}
use Rattle.js_core.specs.declared.token.TokenKind.{TokenKind}
use Rattle.js_core.specs.declared.token.Punct.TheVariants as punct
use Rattle.js_core.specs.declared.keyword.Keyword.TheVariants as keyword
use Rattle.js_grammar.specs.declared.ending.Ending.{Ending}
use Rattle.js_grammar.specs.declared.ending.Ending.TheVariants.{AfterExpression, AfterName}
use Rattle.js_grammar.specs.Symbols as symbols
use Rattle.js_grammar.specs.Symbols.{sign_at}
use Rattle.js_grammar.specs.Phrases.{mark, Separated, only, Many, none}
use Rattle.js_grammar.specs.Statements.{Clause, cases_from, Declaration, bare, initialised, Maybe, missing, present, Init, nothing, variables, expression, Case, case, default}
use Rattle.js_print.specs.declared.lexeme.Lexeme.TheVariants.{Name, Punct}
use Rattle.js_print.specs.declared.place.Place.TheVariants.{Part, Whole}
use Rattle.js_print.specs.Lexemes.{expr_lexemes, stmts_lexemes, initialiser_lexemes, declarators_lexemes, maybe_whole_lexemes, init_lexemes, case_label_lexemes, cases_lexemes}
use Rattle.js_print.specs.Places.{placed}
use Rattle.js_print.proofs.PrintedSymbols.{Keeps, before, before_both, AreKept, kept_both, IsIdentifier}
use Rattle.js_print.proofs.PrintedReads.{Exp, Body, Stm, Reads, ReadsUpTo, Each, many_first, separated_first}
use Rattle.js_print.proofs.PrintedPlaces.{Printed, placed_kept, part_of, part_whole, whole_of}
use Rattle.js_print.proofs.PrintedLists.{PrintedHole}
use Rattle.js_print.proofs.PrintedExpressions.{is_branch}
use Rattle.js_print.proofs.PrintedBlocks.{PrintedStatement, all_kept, all_read}

module _ (Ok : TokenKind → Type 0) (keeps : Keeps Ok) where
  -- ---- declarators

  abbrev pub PrintedDeclarator : Declarator → Type 0
  PrintedDeclarator d = IsIdentifier Ok d.name × PrintedHole Ok keeps d.value

  initialiser_kept : (v : Option tree.Expr) → PrintedHole Ok keeps v → AreKept Ok (initialiser_lexemes (maybe_expr v))
  initialiser_kept None h = tt
  initialiser_kept (Some a) h = (keeps.marks punct.SimpleAssign, placed_kept Ok keeps Part h)

  pub declarators_kept : (ds : List Declarator) → Each PrintedDeclarator ds → AreKept Ok (declarators_lexemes (declarators_of ds))
  declarators_kept [] h = tt
  declarators_kept (d ∷ []) h = (h.0.0.1, kept_both Ok (initialiser_lexemes (maybe_expr d.value)) [] (initialiser_kept d.value h.0.1) tt)
  declarators_kept (d ∷ c ∷ ds) h = (h.0.0.1, kept_both Ok (initialiser_lexemes (maybe_expr d.value)) _ (initialiser_kept d.value h.0.1) (keeps.marks punct.Comma, declarators_kept (c ∷ ds) h.1))

  declaration_read : (inn : Bool) (w : List ℕ) (v : Option tree.Expr) → IsIdentifier Ok w → PrintedHole Ok keeps v → (e : Ending) × Reads (λ d. Declaration (Exp d) (Body d) (Stm d) inn e) (Name w ∷ initialiser_lexemes (maybe_expr v)) (record { name = w; value = v })
  declaration_read inn w None h p = (AfterName, record { room = 0; read = λ d z le. subst (λ s. Declaration (Exp d) (Body d) (Stm d) inn AfterName ((s, false) ∷ z) z (record { name = w; value = None })) (sym h.0) bare })
  declaration_read inn w (Some a) h p =
      let r = part_of Ok keeps p in
      let q = r.1 inn in
      (AfterExpression r.0, record { room = q.room; read = λ d z le. subst (λ s. Declaration (Exp d) (Body d) (Stm d) inn (AfterExpression r.0) ((s, false) ∷ mark punct.SimpleAssign false ∷ before (placed Part a (expr_lexemes a)) z) z (record { name = w; value = Some a })) (sym h.0) (initialised (q.read d z le)) })

  pub declarators_read : (inn : Bool) (c : Declarator) (ds : List Declarator) → PrintedDeclarator c → Each PrintedDeclarator ds → (e : Ending) × Reads (λ d. Separated (Declaration (Exp d) (Body d) (Stm d) inn) e) (declarators_lexemes (declarators_of (c ∷ ds))) (c ∷ ds)
  declarators_read inn c [] p h =
      let r = declaration_read inn c.name c.value p.0 p.1 in
      (r.0, record { room = r.1.room; read = λ d z le. rw (before_both (initialiser_lexemes (maybe_expr c.value)) [] z) (only (r.1.read d z le)) })
  declarators_read inn c (b ∷ ds) p h =
      let r = declaration_read inn c.name c.value p.0 p.1 in
      let s = declarators_read inn b ds h.0 h.1 in
      (s.0, record { room = r.1.room + s.1.room; read = λ d z le. rw (before_both (initialiser_lexemes (maybe_expr c.value)) (Punct punct.Comma ∷ declarators_lexemes (declarators_of (b ∷ ds))) z) (separated_first (Declaration (Exp d) (Body d) (Stm d) inn) (r.1.read d _ (omega arith)) (s.1.read d z (omega arith))) })

  -- ---- headers of `for`

  pub maybe_kept : (o : Option tree.Expr) → PrintedHole Ok keeps o → AreKept Ok (maybe_whole_lexemes (maybe_expr o))
  maybe_kept None h = tt
  maybe_kept (Some a) h = placed_kept Ok keeps Whole h

  pub maybe_read : (o : Option tree.Expr) → PrintedHole Ok keeps o → Reads (λ d. Maybe (Exp d) (Body d) (Stm d)) (maybe_whole_lexemes (maybe_expr o)) o
  maybe_read None h = record { room = 0; read = λ d z le. missing }
  maybe_read (Some a) h = let r = whole_of Ok keeps true h in record { room = r.1.room; read = λ d z le. present (r.1.read d z le) }

  pub record PrintedInit (i : tree.ForInit) : Type 0 where
    pub kept : AreKept Ok (init_lexemes i)
    pub reads : Reads (λ d. Init (Exp d) (Body d) (Stm d)) (init_lexemes i) i

  pub printed_nothing : PrintedInit tree.no_init
  printed_nothing = record { kept = tt; reads = record { room = 0; read = λ d z le. nothing } }

  pub printed_variables : (c : Declarator) (ds : List Declarator) → PrintedDeclarator c → Each PrintedDeclarator ds → PrintedInit (tree.init_var (declarators_of (c ∷ ds)))
  printed_variables c ds p h =
      let r = declarators_read false c ds p h in
      record { kept = (keeps.words keyword.Var, declarators_kept (c ∷ ds) (p, h)); reads = record { room = r.1.room; read = λ d z le. variables (r.1.read d z le) } }

  pub printed_init : {a : tree.Expr} → Printed Ok keeps a → PrintedInit (tree.init_expr a)
  printed_init p =
      let r = whole_of Ok keeps false p in
      record { kept = placed_kept Ok keeps Whole p; reads = record { room = r.1.room; read = λ d z le. expression (r.1.read d z le) } }

  -- ---- clauses of `switch`

  abbrev pub PrintedClause : Clause → Type 0
  PrintedClause c = PrintedHole Ok keeps c.0 × Each (PrintedStatement Ok keeps) c.1

  label_kept : (o : Option tree.Expr) → PrintedHole Ok keeps o → AreKept Ok (case_label_lexemes (maybe_expr o))
  label_kept None h = (keeps.words keyword.Default, (keeps.marks punct.Colon, tt))
  label_kept (Some a) h = (keeps.words keyword.Case, kept_both Ok (placed Part a (expr_lexemes a)) _ (placed_kept Ok keeps Part h) (keeps.marks punct.Colon, tt))

  pub cases_kept : (cs : List Clause) → Each PrintedClause cs → AreKept Ok (cases_lexemes (cases_from cs))
  cases_kept [] h = tt
  cases_kept (c ∷ cs) h = kept_both Ok (case_label_lexemes (maybe_expr c.0)) _ (label_kept c.0 h.0.0) (kept_both Ok (stmts_lexemes (stmts_of c.1)) _ (all_kept Ok keeps c.1 h.0.1) (cases_kept cs h.1))

  cases_begin : (cs : List Clause) (z : List symbols.Lexeme) → is_branch (sign_at (before (cases_lexemes (cases_from cs)) (mark punct.RightBrace false ∷ z))) ≡ false
  cases_begin [] z = refl
  cases_begin ((None, ss) ∷ cs) z = refl
  cases_begin ((Some a, ss) ∷ cs) z = refl

  pub cases_read : (cs : List Clause) → Each PrintedClause cs → ReadsUpTo punct.RightBrace (λ d. Many (Case (Exp d) (Body d) (Stm d))) (cases_lexemes (cases_from cs)) cs
  cases_read [] h = record { room = 0; read = λ d z le. none }
  cases_read ((None, ss) ∷ cs) h =
      let s = all_read Ok keeps ss h.0.1 in
      let r = cases_read cs h.1 in
      record { room = s.room + r.room; read = λ d z le. rw (before_both (stmts_lexemes (stmts_of ss)) (cases_lexemes (cases_from cs)) (mark punct.RightBrace false ∷ z)) (many_first (default (s.read d _ (omega arith) (cases_begin cs z))) (r.read d z (omega arith))) }
  cases_read ((Some a, ss) ∷ cs) h =
      let w = part_whole Ok keeps h.0.0 in
      let s = all_read Ok keeps ss h.0.1 in
      let r = cases_read cs h.1 in
      record { room = w.1.room + (s.room + r.room); read = λ d z le. rw (before_both (placed Part a (expr_lexemes a) ++ Punct punct.Colon ∷ []) (stmts_lexemes (stmts_of ss) ++ cases_lexemes (cases_from cs)) (mark punct.RightBrace false ∷ z), before_both (placed Part a (expr_lexemes a)) (Punct punct.Colon ∷ []), before_both (stmts_lexemes (stmts_of ss)) (cases_lexemes (cases_from cs)) (mark punct.RightBrace false ∷ z)) (many_first (case (w.1.read d _ (omega arith)) (s.read d _ (omega arith) (cases_begin cs z))) (r.read d z (omega arith))) }
