-- Printed lexemes as symbols of the grammar.
use Rattle.std.proofs.Common.{◌≡◌, ℕ, ℤ, Bool, true, false, List, [], ◌∷◌, ◌++◌, Option, Some, None, refl, sym, subst, ap, ◌∙◌}
use Rattle.std.specs.Prelude.{if◌then◌else◌, cond, find, bytes_eq}
use Rattle.std.specs.List.{All}
use Rattle.std.proofs.lemmas.Slice.Eq.{bytes_eq-Decides}
use Rattle.std.proofs.lemmas.List.Elements.{All-nil, All-cons, All-head, All-tail}
use Rattle.js_core.specs.Spelling.{keyword_of, keyword_text, keywords, is_unused_word}
use Rattle.js_core.specs.declared.token.Token.{Token}
use Rattle.js_core.specs.declared.token.TokenKind.{TokenKind}
use Rattle.js_core.specs.declared.token.TokenKind.TheVariants as kind
use Rattle.js_core.specs.declared.token.Punct.{Punct}
use Rattle.js_core.specs.declared.keyword.Keyword.{Keyword as Word}
use Rattle.js_grammar.specs.declared.sign.Sign.{Sign}
use Rattle.js_grammar.specs.Symbols as symbols
use Rattle.js_grammar.specs.Symbols.{Symbol, sign, identifier, unused, number, text, symbol_of, word_symbol, member_name, field_name, number_text, sign_of}
use Rattle.js_grammar.specs.Endings.{is_excluded}
use Rattle.js_grammar.proofs.Callers.{can_begin}
use Rattle.js_print.specs.declared.lexeme.Lexeme.{Lexeme}
use Rattle.js_print.specs.ReadBack.{kind_of, AreTokensOf, none, more}

-- the symbols of printed lexemes, and others behind them
abbrev pub before : List Lexeme → List symbols.Lexeme → List symbols.Lexeme
before [] z = z
before (x ∷ xs) z = (symbol_of (kind_of x), false) ∷ before xs z

pub before_both : (xs ys : List Lexeme) (z : List symbols.Lexeme) → before (xs ++ ys) z ≡ before xs (before ys z)
before_both [] ys z = refl
before_both (x ∷ xs) ys z = ap (λ v. (symbol_of (kind_of x), false) ∷ v) (before_both xs ys z)

pub symbols_are : {xs : List Lexeme} {tokens : List Token} → AreTokensOf xs tokens → symbols.lexemes tokens ≡ before xs []
symbols_are none = refl
symbols_are (more e l h) = rw (symbols_are h, e, l) refl

-- ---- what the first lexeme is

abbrev pub first : Lexeme → Option Sign
first x = sign_of (symbol_of (kind_of x))

-- lexemes that an expression may begin with; where the Boolean is false, an expression statement too
pub data Opens (excluded : Bool) : List Lexeme → Type 0 where
  opens : {x : Lexeme} {xs : List Lexeme} → can_begin (first x) ≡ true → (excluded ≡ false → is_excluded (first x) ≡ false) → Opens excluded (x ∷ xs)

pub opens_both : {b : Bool} {xs : List Lexeme} (ys : List Lexeme) → Opens b xs → Opens b (xs ++ ys)
opens_both ys (opens c e) = opens c e

-- ---- words

found_by : {A : Type 0} (p : A → Bool) (x a : A) (rest : Option A) → (rest ≡ Some a → p a ≡ true) → (b : Bool) → p x ≡ b → cond b (Some x) rest ≡ Some a → p a ≡ true
found_by p x a rest f true h e = let same : x ≡ a = cc in subst (λ v. p v ≡ true) same h
found_by p x a rest f false h e = f e

found_passes : {A : Type 0} (p : A → Bool) (xs : List A) (a : A) → find p xs ≡ Some a → p a ≡ true
found_passes p [] a e = absurd (cc)
found_passes p (x ∷ xs) a e = found_by p x a (find p xs) (found_passes p xs a) (p x) refl e

pub keyword_spelled : (w : List ℕ) (k : Word) → keyword_of w ≡ Some k → w ≡ keyword_text k
keyword_spelled w k e = (bytes_eq-Decides w (keyword_text k)).0 (found_passes (λ k. bytes_eq w (keyword_text k)) keywords k e)

-- ---- the tokens of lexemes

-- what holds of each reserved word and punctuator
pub record Keeps (Ok : TokenKind → Type 0) : Type 0 where
  pub words : (k : Word) → Ok (kind.Word (keyword_text k))
  pub marks : (p : Punct) → Ok (kind.Punct p)

module _ (Ok : TokenKind → Type 0) where
  abbrev pub AreKept : List Lexeme → Type 0
  AreKept [] = Unit {0}
  AreKept (x ∷ xs) = Ok (kind_of x) × AreKept xs

  pub kept_both : (xs ys : List Lexeme) → AreKept xs → AreKept ys → AreKept (xs ++ ys)
  kept_both [] ys h k = k
  kept_both (x ∷ xs) ys h k = (h.0, kept_both xs ys h.1 k)

  -- an identifier is printed as the same
  abbrev pub IsIdentifier : List ℕ → Type 0
  IsIdentifier w = (symbol_of (kind.Word w) ≡ identifier w) × Ok (kind.Word w)

  -- the name behind a point
  abbrev pub IsName : List ℕ → Type 0
  IsName w = (member_name (symbol_of (kind.Word w)) ≡ Some w) × Ok (kind.Word w)

  pub all_kept : (xs : List Lexeme) → AreKept xs → All (λ x. Ok (kind_of x)) xs
  all_kept [] h = All-nil (λ x. Ok (kind_of x))
  all_kept (x ∷ xs) h = All-cons (λ x. Ok (kind_of x)) x xs h.0 (all_kept xs h.1)
