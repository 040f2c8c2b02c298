-- The tokens of a printed script that begins with the strict directive are strict.
use Rattle.std.proofs.Common.{◌≡◌, ℕ, ◌+◌, ◌-◌, ◌≤◌, Bool, true, false, List, [], ◌∷◌, ◌++◌, length, Some, refl, sym, subst, length-append, arith}
use Rattle.std.specs.Prelude.{◌||◌, codes, bytes_eq}
use Rattle.std.proofs.lemmas.Bool.{eq-eqb}
use Rattle.std.proofs.lemmas.Slice.Eq.{bytes_eq-Decides}
use Rattle.js_core.specs.Tree as tree
use Rattle.js_core.specs.declared.token.Punct.TheVariants as punct
use Rattle.js_core.specs.declared.token.Token.{Token}
use Rattle.js_core.specs.declared.token.TokenKind.TheVariants as kind
use Rattle.js_lexer.specs.Directives.{is_use_strict, behind_statement, IsStrict}
use Rattle.js_lexer.specs.Directives.IsStrict.{here, later}
use Rattle.js_print.specs.Lexemes.{stmts_lexemes}
use Rattle.js_print.specs.ReadAgain.{begins_strict}
use Rattle.js_print.specs.Spelling.{string_text}
use Rattle.js_print.specs.declared.lexeme.Lexeme.{Lexeme}
use Rattle.js_print.specs.declared.lexeme.Lexeme.TheVariants.{Text, Punct}
use Rattle.js_print.proofs.TokensOfText.{tokens_from}
use Rattle.js_print.proofs.Units.{units_after}

-- the units of a string literal that is a statement, and of what stands behind it
abbrev directed : List ℕ → List Lexeme → List ℕ
directed t xs = string_text t ++ units_after false (Punct punct.Semicolon ∷ xs)

pub ends : (u : Token) (us : List Token) → u.what ≡ kind.Punct punct.Semicolon → behind_statement (u ∷ us) ≡ Some us
unfolding behind_statement
ends u us e = rw e refl

-- the directive has 12 units
pub spans : (size start behind : ℕ) (t : Token) → start ≤ size → start ≡ 12 + behind → t.what ≡ kind.Text (codes "use strict") → t.start ≡ size - start → t.end ≡ size - behind → is_use_strict t ≡ true
unfolding is_use_strict
spans size start behind t le e w f g = rw (w, f, g) (eq-eqb (size - start + 12) (size - behind) (omega arith))

module _ (size : ℕ) (t : List ℕ) (xs : List Lexeme) where
  abbrev first : Token
  first = record { what = kind.Text t; start = size - length (directed t xs); end = size - length (units_after false (Punct punct.Semicolon ∷ xs)); after_line = false }

  abbrev semicolon : Token
  semicolon = record { what = kind.Punct punct.Semicolon; start = size - length (units_after false (Punct punct.Semicolon ∷ xs)); end = size - length (units_after false xs); after_line = false }

  rest_fits : length (directed t xs) ≤ size → length (units_after false xs) ≤ size
  rest_fits le = let e = length-append (string_text t) (units_after false (Punct punct.Semicolon ∷ xs)) in omega arith

  first_directive : t ≡ codes "use strict" → length (directed t xs) ≤ size → IsStrict (tokens_from size (Text t ∷ Punct punct.Semicolon ∷ xs))
  first_directive e le =
      let spanned = length-append (string_text t) (units_after false (Punct punct.Semicolon ∷ xs)) in
      let twelve : length (string_text t) ≡ 12 = subst (λ v. length (string_text v) ≡ 12) (sym e) refl in
      let s = spans size (length (directed t xs)) (length (units_after false (Punct punct.Semicolon ∷ xs))) first le (omega arith) (subst (λ v. kind.Text v ≡ kind.Text (codes "use strict")) (sym e) refl) refl refl in
      here first (semicolon ∷ tokens_from size xs) (tokens_from size xs) s (ends semicolon (tokens_from size xs) refl)

  later_directive : IsStrict (tokens_from size xs) → IsStrict (tokens_from size (Text t ∷ Punct punct.Semicolon ∷ xs))
  later_directive h = later first (semicolon ∷ tokens_from size xs) (tokens_from size xs) refl (ends semicolon (tokens_from size xs) refl) h

pub strict_from : (size : ℕ) (ss : tree.Stmts) → begins_strict ss ≡ true → length (units_after false (stmts_lexemes ss)) ≤ size → IsStrict (tokens_from size (stmts_lexemes ss))
strict_from size (tree.then_stmt (tree.expr (tree.text t)) ss) e le =
    by (bytes_eq t (codes "use strict")) refl e (λ h. strict_from size ss h (rest_fits size t (stmts_lexemes ss) le))
  where
    by : (b : Bool) → bytes_eq t (codes "use strict") ≡ b → (b || begins_strict ss) ≡ true → (begins_strict ss ≡ true → IsStrict (tokens_from size (stmts_lexemes ss))) → IsStrict (tokens_from size (Text t ∷ Punct punct.Semicolon ∷ stmts_lexemes ss))
    by true same h rest = first_directive size t (stmts_lexemes ss) ((bytes_eq-Decides t (codes "use strict")).0 same) le
    by false same h rest = later_directive size t (stmts_lexemes ss) (rest h)
strict_from size ss e le = absurd (cc)
