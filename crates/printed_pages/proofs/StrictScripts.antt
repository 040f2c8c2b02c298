-- A script whose tokens are strict begins with the strict directive: its directives are read as its foremost statements.
use Rattle.std.proofs.Common.{◌≡◌, ◌∙◌, refl, sym, ap, subst, ℕ, zero, suc, ◌-◌, Bool, true, false, List, [], ◌∷◌, ◌++◌, length, append_assoc, Some, None}
use Rattle.std.specs.Prelude.{◌||◌, if◌then◌else◌, codes, bytes_eq}
use Rattle.std.proofs.Math.Bool.{or-true}
use Rattle.std.proofs.lemmas.Bool.{and_parts}
use Rattle.std.proofs.lemmas.List.{append-nil}
use Rattle.std.proofs.lemmas.List.Elements.{All-cons, All-nil}
use Rattle.std.specs.List.{All}
use Rattle.js_core.specs.Tree as tree
use Rattle.js_core.specs.Tree.{stmts_of}
use Rattle.js_core.specs.declared.token.Token.{Token}
use Rattle.js_core.specs.declared.token.TokenKind.{TokenKind}
use Rattle.js_core.specs.declared.token.TokenKind.TheVariants as kind
use Rattle.js_grammar.specs.declared.operators.Level.{Level}
use Rattle.js_grammar.specs.Parser.{Parser, Outcome, added, and_then, many, repeat}
use Rattle.js_grammar.specs.Scripts.{ScriptOf, height_limit}
use Rattle.js_grammar.specs.ScriptReader.{inside, room_of, read_script, whole}
use Rattle.js_grammar.specs.ScriptReader as what
use Rattle.js_grammar.specs.StatementReader as statements
use Rattle.js_grammar.specs.StatementReader.{has_more}
use Rattle.js_grammar.specs.Symbols.{Lexeme, lexemes, symbol_of, text}
use Rattle.js_lexer.specs.Directives.{IsStrict, is_text, is_text_of, is_use_strict, behind_statement}
use Rattle.js_lexer.specs.Directives.IsStrict.{here, later}
use Rattle.js_print.specs.ReadAgain.{begins_strict}
use Rattle.page_check.specs.Accept.{ArePageScripts, texts_of}
use Rattle.printed_pages.specs.Printed.{AcceptedScriptsBeginStrict}
use Rattle.printed_pages.proofs.StrictStatements.{Ends, directive_ends, directive_read, then_reads}

-- what an outcome has found, and what it leaves

abbrev found_by : {A : Type 0} → Outcome (List A) → List A
found_by None = []
found_by (Some o) = o.0

abbrev left_by : {A : Type 0} → Outcome (List A) → List Lexeme
left_by None = []
left_by (Some o) = o.1

same : {A : Type 0} (all found : List A) (i z : List Lexeme) → ◌≡◌ {A = Outcome (List A)} (Some (found, i)) (Some (all, z)) → all ≡ found
same all found i z e = ap found_by (sym e)

not_nil : (t : Lexeme) (i : List Lexeme) → t ∷ i ≡ [] → ⊥
not_nil t i e = absurd (cc)

nothing_left : {A : Type 0} (all found : List A) (t : Lexeme) (i : List Lexeme) → ◌≡◌ {A = Outcome (List A)} (Some (found, t ∷ i)) (Some (all, [])) → ⊥
nothing_left all found t i e = let f : t ∷ i ≡ [] = ap left_by e in not_nil t i f

-- what a repetition has found stays in front
keeps_front : {A : Type 0} (go : List Lexeme → Bool) (item : Parser A) (n : ℕ) (found all : List A) (i z : List Lexeme)
    → repeat go (added item) n found i ≡ Some (all, z) → (more : List A) × (all ≡ found ++ more)
keeps_front go item zero found all i z e = ([], same all found i z e ∙ sym (append-nil found))
keeps_front {A} go item (suc n) found all i z e = by (go i) e (λ a j. keeps_front go item n (found ++ a ∷ []) all j z)
  where
    again : (o : Outcome A) → and_then (and_then o (λ a j. Some (found ++ a ∷ [], j))) (repeat go (added item) n) ≡ Some (all, z)
        → ((a : A) (j : List Lexeme) → repeat go (added item) n (found ++ a ∷ []) j ≡ Some (all, z) → (more : List A) × (all ≡ (found ++ a ∷ []) ++ more))
        → (more : List A) × (all ≡ found ++ more)
    again None f further = absurd (cc)
    again (Some (a, j)) f further = let rest = further a j f in (a ∷ rest.0, rest.1 ∙ append_assoc found (a ∷ []) rest.0)

    by : (b : Bool) → (if b then and_then (added item found i) (repeat go (added item) n) else Some (found, i)) ≡ Some (all, z)
        → ((a : A) (j : List Lexeme) → repeat go (added item) n (found ++ a ∷ []) j ≡ Some (all, z) → (more : List A) × (all ≡ (found ++ a ∷ []) ++ more))
        → (more : List A) × (all ≡ found ++ more)
    by true f further = again (item i) f further
    by false f further = ([], same all found i z f ∙ sym (append-nil found))

-- ---- directives

is_text_there : (k : TokenKind) → is_text k ≡ true → (u : List ℕ) × (k ≡ kind.Text u)
is_text_there (kind.Text u) e = (u, refl)
is_text_there (kind.Word w) e = absurd (cc)
is_text_there (kind.Number n) e = absurd (cc)
is_text_there (kind.Punct p) e = absurd (cc)

is_strict_there : (k : TokenKind) → is_text_of (codes "use strict") k ≡ true → (u : List ℕ) × (k ≡ kind.Text u) × (bytes_eq u (codes "use strict") ≡ true)
is_strict_there (kind.Text u) e = (u, refl, e)
is_strict_there (kind.Word w) e = absurd (cc)
is_strict_there (kind.Number n) e = absurd (cc)
is_strict_there (kind.Punct p) e = absurd (cc)

directive_text : (t : Token) → is_use_strict t ≡ true → is_text_of (codes "use strict") t.what ≡ true
unfolding is_use_strict
directive_text t e = (and_parts (is_text_of (codes "use strict") t.what) _ e).0

module _ (exp : Bool → Level → Parser tree.Expr) (body : Parser (List tree.Stmt)) (statement : Parser tree.Stmt) where
  abbrev read : ℕ → List tree.Stmt → List Lexeme → Outcome (List tree.Stmt)
  read = repeat has_more (added (statements.element height_limit exp body statement))

  -- a directive is read and added to what was found
  directive_added : (n : ℕ) (found all : List tree.Stmt) (u : List ℕ) (l : Bool) (r z : List Lexeme) → Ends r z → read n found ((text u, l) ∷ r) ≡ Some (all, [])
      → (m : ℕ) × (read m (found ++ tree.expr (tree.text u) ∷ []) z ≡ Some (all, []))
  directive_added zero found all u l r z ends e = absurd (nothing_left all found (text u, l) r e)
  directive_added (suc n) found all u l r z ends e =
      (n, sym (then_reads _ (then_reads _ (directive_read exp body statement u l r z ends) refl) refl) ∙ e)

  -- by its token
  token_added : (n : ℕ) (found all : List tree.Stmt) (u : List ℕ) (t : Token) (tokens rest : List Token) → t.what ≡ kind.Text u → behind_statement tokens ≡ Some rest
      → read n found (lexemes (t ∷ tokens)) ≡ Some (all, []) → (m : ℕ) × (read m (found ++ tree.expr (tree.text u) ∷ []) (lexemes rest) ≡ Some (all, []))
  token_added n found all u t tokens rest is ended e =
      directive_added n found all u t.after_line (lexemes tokens) (lexemes rest) (directive_ends tokens rest ended)
      (subst (λ (k : TokenKind). read n found ((symbol_of k, t.after_line) ∷ lexemes tokens) ≡ Some (all, [])) is e)

  -- what is read of strict tokens begins with the strict directive
  strict_front : (tokens : List Token) → IsStrict tokens → (n : ℕ) (found all : List tree.Stmt) → read n found (lexemes tokens) ≡ Some (all, [])
      → (more : List tree.Stmt) × (all ≡ found ++ more) × (begins_strict (stmts_of more) ≡ true)
  strict_front tokens (here t behind rest is ended) n found all e =
      let there = is_strict_there t.what (directive_text t is) in
      let next = token_added n found all there.0 t behind rest there.1 ended e in
      let more = keeps_front has_more (statements.element height_limit exp body statement) next.0 (found ++ tree.expr (tree.text there.0) ∷ []) all (lexemes rest) [] next.1 in (
        tree.expr (tree.text there.0) ∷ more.0,
        more.1 ∙ append_assoc found (tree.expr (tree.text there.0) ∷ []) more.0,
        ap (λ (b : Bool). b || begins_strict (stmts_of more.0)) there.2,
      )
  strict_front tokens (later t behind rest is ended strict) n found all e =
      let there = is_text_there t.what is in
      let next = token_added n found all there.0 t behind rest there.1 ended e in
      let more = strict_front rest strict next.0 (found ++ tree.expr (tree.text there.0) ∷ []) all next.1 in (
        tree.expr (tree.text there.0) ∷ more.0,
        more.1 ∙ append_assoc found (tree.expr (tree.text there.0) ∷ []) more.0,
        ap (λ (b : Bool). bytes_eq there.0 (codes "use strict") || b) more.2 ∙ or-true (bytes_eq there.0 (codes "use strict")),
      )

-- ---- the law

read_begins_strict : (tokens : List Token) (script : tree.Stmts) → IsStrict tokens → read_script height_limit tokens ≡ Some script → begins_strict script ≡ true
unfolding read_script inside statements.elements many
read_begins_strict tokens script strict e =
    by (inside height_limit (room_of height_limit) (suc (length tokens)) what.body (lexemes tokens)) refl e
  where
    by : (o : Outcome (List tree.Stmt)) → inside height_limit (room_of height_limit) (suc (length tokens)) what.body (lexemes tokens) ≡ o → whole o ≡ Some script
        → begins_strict script ≡ true
    by None f g = absurd (cc)
    by (Some (all, t ∷ ts)) f g = absurd (cc)
    by (Some (all, [])) f g =
        let room = room_of height_limit - 1 in
        let fuel = length tokens in
        let front = strict_front (λ inn level. inside height_limit room fuel (what.expression inn level)) (inside height_limit room fuel what.body) (inside height_limit room fuel what.statement)
        tokens strict (length (lexemes tokens)) [] all f
        in
        let script_is : stmts_of all ≡ script = cc in
        subst (λ (s : tree.Stmts). begins_strict s ≡ true) (ap stmts_of (sym front.1) ∙ script_is) front.2

pub accepted_scripts_begin_strict : ((tokens : List Token) (script : tree.Stmts) → ScriptOf height_limit tokens script → read_script height_limit tokens ≡ Some script) → AcceptedScriptsBeginStrict
accepted_scripts_begin_strict complete bytes page is = all_strict (texts_of is.texts) page.scripts is.read
  where
    all_strict : (texts : List (List ℕ)) (scripts : List tree.Stmts) → ArePageScripts page.kind texts scripts → All (λ script. begins_strict script ≡ true) scripts
    all_strict [] [] read = All-nil (λ script. begins_strict script ≡ true)
    all_strict (one_text ∷ texts) (script ∷ scripts) read =
        let strict = read.0.low.orderly.strict in
        All-cons (λ script. begins_strict script ≡ true) script scripts
        (read_begins_strict strict.tokens script strict.strict (complete strict.tokens script strict.read.parsed)) (all_strict texts scripts read.1)
    all_strict [] (script ∷ scripts) read = absurd read
    all_strict (one_text ∷ texts) [] read = absurd read
