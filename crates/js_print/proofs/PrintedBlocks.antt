-- What printing a statement gives, and lists of statements.
use Rattle.std.proofs.Common.{◌≡◌, ℕ, zero, suc, ◌+◌, ◌≤◌, Bool, true, false, List, [], ◌∷◌, ◌++◌, Option, Some, None, refl, ◌∙◌, ap, arith}
use Rattle.js_core.specs.Tree as tree
use Rattle.js_core.specs.Tree.{stmts_of}
use Rattle.js_core.specs.declared.token.TokenKind.{TokenKind}
use Rattle.js_core.specs.declared.token.Punct.TheVariants as punct
use Rattle.js_core.specs.declared.keyword.Keyword.TheVariants as keyword
use Rattle.js_grammar.specs.declared.sign.Sign.{Sign}
use Rattle.js_grammar.specs.declared.sign.Sign.TheVariants.{Mark, Word}
use Rattle.js_grammar.specs.Symbols as symbols
use Rattle.js_grammar.specs.Symbols.{sign_at, is_sign}
use Rattle.js_grammar.specs.Endings.{is_excluded, same_line}
use Rattle.js_grammar.specs.Phrases.{Phrase, mark, Many, none}
use Rattle.js_grammar.specs.Statements.{body_of, Braced, braced, Statement, block}
use Rattle.js_grammar.specs.Scripts.{statement}
use Rattle.js_grammar.proofs.Callers.{can_begin}
use Rattle.js_print.specs.declared.lexeme.Lexeme.{Lexeme}
use Rattle.js_print.specs.declared.lexeme.Lexeme.TheVariants.{Punct}
use Rattle.js_print.specs.Lexemes.{stmt_lexemes, stmts_lexemes}
use Rattle.js_print.specs.Places.{parenthesised, braced as in_braces}
use Rattle.js_print.proofs.PrintedSymbols.{Keeps, before, before_both, first, Opens, opens, AreKept, kept_both}
use Rattle.js_print.proofs.PrintedReads.{Exp, Body, Stm, Reads, inside, Each, many_first}
use Rattle.js_print.proofs.PrintedExpressions.{is_branch}

-- ---- `else` and `finally`

pub branch_else : (s : Option Sign) → is_branch s ≡ false → is_sign (Word keyword.Else) s ≡ false
branch_else None e = refl
branch_else (Some (Word keyword.Else)) e = absurd (cc)
branch_else (Some (Word _)) e = refl
branch_else (Some (Mark _)) e = refl

pub branch_finally : (s : Option Sign) → is_branch s ≡ false → is_sign (Word keyword.Finally) s ≡ false
branch_finally None e = refl
branch_finally (Some (Word keyword.Finally)) e = absurd (cc)
branch_finally (Some (Word _)) e = refl
branch_finally (Some (Mark _)) e = refl

pub no_branch : (s : Option Sign) → can_begin s ≡ true → is_branch s ≡ false
no_branch None e = refl
no_branch (Some (Word keyword.Else)) e = absurd (cc)
no_branch (Some (Word keyword.Finally)) e = absurd (cc)
no_branch (Some (Word _)) e = refl
no_branch (Some (Mark _)) e = refl

-- lexemes that begin with neither
pub data Begins : List Lexeme → Type 0 where
  begins : {x : Lexeme} {xs : List Lexeme} → is_branch (first x) ≡ false → Begins (x ∷ xs)

pub begins_by : {b : Bool} {xs : List Lexeme} (ys : List Lexeme) → Opens b xs → Begins (xs ++ ys)
begins_by ys (opens {x = x} c e) = begins (no_branch (first x) c)

begins_at : {xs : List Lexeme} (ys : List Lexeme) (z : List symbols.Lexeme) → Begins xs → is_branch (sign_at (before (xs ++ ys) z)) ≡ false
begins_at ys z (begins e) = e

-- lexemes that an expression statement may begin with
pub not_excluded : {xs : List Lexeme} (z : List symbols.Lexeme) → Opens false xs → is_excluded (sign_at (before xs z)) ≡ false
not_excluded z (opens c e) = e refl

pub in_same_line : {b : Bool} {xs : List Lexeme} (z : List symbols.Lexeme) → Opens b xs → same_line (before xs z) ≡ true
in_same_line z (opens c e) = refl

-- ---- parentheses and braces

pub before_header : (xs ys : List Lexeme) (z : List symbols.Lexeme) → before (parenthesised xs ++ ys) z ≡ mark punct.LeftParenthesis false ∷ before xs (mark punct.RightParenthesis false ∷ before ys z)
before_header xs ys z = ap (λ v. mark punct.LeftParenthesis false ∷ v) (before_both (xs ++ Punct punct.RightParenthesis ∷ []) ys z ∙ before_both xs (Punct punct.RightParenthesis ∷ []) (before ys z))

pub before_braces : (xs ys : List Lexeme) (z : List symbols.Lexeme) → before (in_braces xs ++ ys) z ≡ mark punct.LeftBrace false ∷ before xs (mark punct.RightBrace false ∷ before ys z)
before_braces xs ys z = ap (λ v. mark punct.LeftBrace false ∷ v) (before_both (xs ++ Punct punct.RightBrace ∷ []) ys z ∙ before_both xs (Punct punct.RightBrace ∷ []) (before ys z))

abbrev pub Statements : ℕ → Phrase tree.Stmt
Statements d = Statement (Exp d) (Body d) (Stm d)

module _ (Ok : TokenKind → Type 0) (keeps : Keeps Ok) where
  pub header_kept : (xs ys : List Lexeme) → AreKept Ok xs → AreKept Ok ys → AreKept Ok (parenthesised xs ++ ys)
  header_kept xs ys h k = (keeps.marks punct.LeftParenthesis, kept_both Ok (xs ++ Punct punct.RightParenthesis ∷ []) ys (kept_both Ok xs _ h (keeps.marks punct.RightParenthesis, tt)) k)

  pub braces_kept : (xs ys : List Lexeme) → AreKept Ok xs → AreKept Ok ys → AreKept Ok (in_braces xs ++ ys)
  braces_kept xs ys h k = (keeps.marks punct.LeftBrace, kept_both Ok (xs ++ Punct punct.RightBrace ∷ []) ys (kept_both Ok xs _ h (keeps.marks punct.RightBrace, tt)) k)

  pub all_braces_kept : (xs : List Lexeme) → AreKept Ok xs → AreKept Ok (in_braces xs)
  all_braces_kept xs h = (keeps.marks punct.LeftBrace, kept_both Ok xs _ h (keeps.marks punct.RightBrace, tt))

  -- a statement is printed as one that is read so, before what does not go on with it
  pub record PrintedAs (P : ℕ → Phrase tree.Stmt) (s : tree.Stmt) : Type 0 where
    pub kept : AreKept Ok (stmt_lexemes s)
    pub opening : Begins (stmt_lexemes s)
    pub room : ℕ
    pub read : (d : ℕ) (z : List symbols.Lexeme) → room ≤ d → is_branch (sign_at z) ≡ false → P d (before (stmt_lexemes s) z) z s

  -- ---- lists of statements

  pub stmts_kept : (P : ℕ → Phrase tree.Stmt) (ss : List tree.Stmt) → Each (PrintedAs P) ss → AreKept Ok (stmts_lexemes (stmts_of ss))
  stmts_kept P [] h = tt
  stmts_kept P (s ∷ ss) h = let p = h.0 in kept_both Ok (stmt_lexemes s) (stmts_lexemes (stmts_of ss)) p.kept (stmts_kept P ss h.1)

  stmts_begin : (P : ℕ → Phrase tree.Stmt) (ss : List tree.Stmt) → Each (PrintedAs P) ss → (z : List symbols.Lexeme) → is_branch (sign_at z) ≡ false → is_branch (sign_at (before (stmts_lexemes (stmts_of ss)) z)) ≡ false
  stmts_begin P [] h z e = e
  stmts_begin P (s ∷ ss) h z e = let p = h.0 in begins_at (stmts_lexemes (stmts_of ss)) z p.opening

  -- statements one after another, before what does not go on with the last
  pub record ReadsMany (P : ℕ → Phrase tree.Stmt) (ss : List tree.Stmt) : Type 0 where
    pub room : ℕ
    pub read : (d : ℕ) (z : List symbols.Lexeme) → room ≤ d → is_branch (sign_at z) ≡ false → Many (P d) (before (stmts_lexemes (stmts_of ss)) z) z ss

  pub stmts_read : (P : ℕ → Phrase tree.Stmt) (ss : List tree.Stmt) → Each (PrintedAs P) ss → ReadsMany P ss
  stmts_read P [] h = record { room = 0; read = λ d z le e. none }
  stmts_read P (s ∷ ss) h =
      let p = h.0 in
      let r = stmts_read P ss h.1 in
      record { room = p.room + r.room; read = λ d z le e. rw before_both (many_first (p.read d _ (omega arith) (stmts_begin P ss h.1 z e)) (r.read d z (omega arith) e)) }

  -- ---- statements in others

  pub record PrintedStatement (s : tree.Stmt) : Type 0 where
    pub alone : PrintedAs Statements s
    -- as the body of another
    pub inner_kept : AreKept Ok (in_braces (stmts_lexemes (body_of s)))
    pub inner : Reads Stm (in_braces (stmts_lexemes (body_of s))) (tree.block (body_of s))

  inner_as : {s : tree.Stmt} → PrintedAs Statements s → PrintedAs Stm s
  inner_as {s} p = record { kept = p.kept; opening = p.opening; room = suc p.room; read = by }
    where
      by : (d : ℕ) (z : List symbols.Lexeme) → suc p.room ≤ d → is_branch (sign_at z) ≡ false → Stm d (before (stmt_lexemes s) z) z s
      by zero z le e = absurd (omega arith)
      by (suc d) z le e = p.read d z (omega arith) e

  pub all_inner : (ss : List tree.Stmt) → Each PrintedStatement ss → Each (PrintedAs Stm) ss
  all_inner [] h = tt
  all_inner (s ∷ ss) h = let p = h.0 in (inner_as p.alone, all_inner ss h.1)

  pub all_kept : (ss : List tree.Stmt) → Each PrintedStatement ss → AreKept Ok (stmts_lexemes (stmts_of ss))
  all_kept ss h = stmts_kept Stm ss (all_inner ss h)

  pub all_read : (ss : List tree.Stmt) → Each PrintedStatement ss → ReadsMany Stm ss
  all_read ss h = stmts_read Stm ss (all_inner ss h)

  pub braces_read : (ss : List tree.Stmt) → Each PrintedStatement ss → Reads (λ d. Braced (Exp d) (Body d) (Stm d)) (in_braces (stmts_lexemes (stmts_of ss))) ss
  braces_read ss h =
      let r = all_read ss h in
      record { room = r.room; read = λ d z le. rw before_both (braced (r.read d (mark punct.RightBrace false ∷ z) le refl)) }

  pub block_reads : (ss : List tree.Stmt) → Each PrintedStatement ss → Reads Statements (in_braces (stmts_lexemes (stmts_of ss))) (tree.block (stmts_of ss))
  block_reads ss h = let r = braces_read ss h in record { room = r.room; read = λ d z le. block (r.read d z le) }

  pub printed_block : (ss : List tree.Stmt) → Each PrintedStatement ss → PrintedStatement (tree.block (stmts_of ss))
  printed_block ss h =
      let r = block_reads ss h in
      let k = all_braces_kept (stmts_lexemes (stmts_of ss)) (all_kept ss h) in
      record {
        alone = record { kept = k; opening = begins refl; room = r.room; read = λ d z le e. r.read d z le };
        inner_kept = k;
        inner = inside statement r;
      }

  -- a statement that is no block
  pub no_block : (s : tree.Stmt) → body_of s ≡ tree.then_stmt s tree.no_stmts → PrintedAs Statements s → PrintedStatement s
  no_block s same p =
      let q : Each (PrintedAs Stm) (s ∷ []) = (inner_as p, tt) in
      let r = stmts_read Stm (s ∷ []) q in
      record {
        alone = p;
        inner_kept = rw same (all_braces_kept (stmts_lexemes (stmts_of (s ∷ []))) (stmts_kept Stm (s ∷ []) q));
        inner = rw same (inside statement (record { room = r.room; read = λ d z le. rw before_both (block (braced (r.read d (mark punct.RightBrace false ∷ z) le refl))) }));
      }
