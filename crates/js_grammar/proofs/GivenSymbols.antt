-- Symbols of tokens that can be written, and what is known of the names, numbers and texts among them.
use Rattle.std.proofs.Common.{◌≡◌, ℕ, ℤ, pos, ◌<◌, ◌≤◌, ◌^◌, Bool, true, false, List, [], ◌∷◌, Option, Some, None, refl, sym, subst, ap, ◌∙◌, arith}
use Rattle.std.proofs.lemmas.Bool.{and_from, and_parts}
use Rattle.std.specs.Prelude.{if◌then◌else◌, cond, find, bytes_eq, not, ◌||◌, is_some, IsTrue, nat_le, decimal}
use Rattle.std.specs.List.{All, list_all}
use Rattle.std.specs.Char.{is_ascii_digit}
use Rattle.std.specs.Str.{all_ascii_digits}
use Rattle.std.specs.Str.Parse.{digits_value}
use Rattle.std.proofs.lemmas.Bool.Decides.{nat_tests}
use Rattle.std.proofs.lemmas.Fmt.{digits_decimal}
use Rattle.std.proofs.lemmas.List.Elements.{All-head, All-tail}
use Rattle.std.proofs.lemmas.Slice.Eq.{bytes_eq-Decides}
use Rattle.std.proofs.lemmas.Str.Parse.{IsNumeralModel, numerals_by_value, tells_all_ascii_digits}
use Rattle.js_core.specs.Spelling.{keyword_of, keyword_text, keywords, is_unused_word}
use Rattle.js_core.specs.Whole.{largest}
use Rattle.js_core.specs.declared.token.Token.{Token}
use Rattle.js_core.specs.declared.token.TokenKind.{TokenKind}
use Rattle.js_core.specs.declared.token.TokenKind.TheVariants as kind
use Rattle.js_core.specs.declared.keyword.Keyword.{Keyword as Word}
use Rattle.js_lexer.specs.Written.{can_be_written, is_unit, is_identifier_name}
use Rattle.js_grammar.specs.Symbols.{Symbol, Lexeme, identifier, unused, number, text, symbol_of, word_symbol, member_name, field_name, number_text, lexemes}
use Rattle.js_grammar.specs.Syntax.{is_identifier}

-- ---- words

found_by : {A : Type 0} (p : A → Bool) (x a : A) (rest : Option A) → (rest ≡ Some a → p a ≡ true) → (b : Bool) → p x ≡ b → cond b (Some x) rest ≡ Some a → p a ≡ true
found_by p x a rest f true h e = let same : x ≡ a = cc in subst (λ v. p v ≡ true) same h
found_by p x a rest f false h e = f e

found_passes : {A : Type 0} (p : A → Bool) (xs : List A) (a : A) → find p xs ≡ Some a → p a ≡ true
found_passes p [] a e = absurd (cc)
found_passes p (x ∷ xs) a e = found_by p x a (find p xs) (found_passes p xs a) (p x) refl e

pub keyword_spelled : (w : List ℕ) (k : Word) → keyword_of w ≡ Some k → w ≡ keyword_text k
keyword_spelled w k e = (bytes_eq-Decides w (keyword_text k)).0 (found_passes (λ k. bytes_eq w (keyword_text k)) keywords k e)

-- an identifier is a word that is not reserved
identifier_word : (u w : List ℕ) (o : Option Word) → word_symbol u o ≡ identifier w → (u ≡ w) × (not (is_some o || is_unused_word u) ≡ true)
identifier_word u w (Some k) e = absurd (cc)
identifier_word u w None e = by (is_unused_word u) e
  where
    by : (b : Bool) → (if b then unused u else identifier u) ≡ identifier w → (u ≡ w) × (not (false || b) ≡ true)
    by true e = absurd (cc)
    by false e = (cc, refl)

member_word : (u w : List ℕ) (o : Option Word) → keyword_of u ≡ o → member_name (word_symbol u o) ≡ Some w → u ≡ w
member_word u w (Some k) i e = let same : keyword_text k ≡ w = cc in subst (λ v. u ≡ v) same (keyword_spelled u k i)
member_word u w None i e = by (is_unused_word u) e
  where
    by : (b : Bool) → member_name (if b then unused u else identifier u) ≡ Some w → u ≡ w
    by true e = cc
    by false e = cc

field_word : (u : List ℕ) (o : Option Word) → field_name (word_symbol u o) ≡ member_name (word_symbol u o)
field_word u (Some k) = refl
field_word u None = by (is_unused_word u)
  where
    by : (b : Bool) → field_name (if b then unused u else identifier u) ≡ member_name (if b then unused u else identifier u)
    by true = refl
    by false = refl

-- ---- numbers as texts

numerals : IsNumeralModel (λ ds. all_ascii_digits ds ≡ true) (digits_value 10)
numerals = numerals_by_value _ tells_all_ascii_digits

digit_is_unit : (u : ℕ) → is_ascii_digit u ≡ true → is_unit u ≡ true
digit_is_unit u e = grind (arith, nat_tests)

digits_are_units : (us : List ℕ) → all_ascii_digits us ≡ true → list_all is_unit us ≡ true
digits_are_units [] e = refl
digits_are_units (u ∷ us) e = let h = and_parts _ _ e in and_from _ _ (digit_is_unit u h.0) (digits_are_units us h.1)

small : (n : ℕ) → nat_le n largest ≡ true → n < 2 ^ 64
small n e = let l : n ≤ largest = grind (arith, nat_tests) in omega arith

number_is_written : (n : Option ℤ) → can_be_written (kind.Number n) ≡ true → can_be_written (kind.Text (number_text n)) ≡ true
number_is_written (Some (pos n)) e = digits_are_units (decimal n) (digits_decimal numerals n (small n e))
number_is_written n e = absurd (cc)

-- ---- the symbols of tokens

abbrev Ok : TokenKind → Type 0
Ok k = IsTrue (can_be_written k)

-- the symbol of a token that can be written
abbrev pub IsGiven : Symbol → Type 0
IsGiven s = (k : TokenKind) × (symbol_of k ≡ s) × Ok k

abbrev pub AreGiven : List Lexeme → Type 0
AreGiven [] = Unit {0}
AreGiven (t ∷ ts) = IsGiven t.0 × AreGiven ts

pub given_identifier : {w : List ℕ} → IsGiven (identifier w) → IsTrue (is_identifier w)
given_identifier {w} g = by g.0 g.1 g.2
  where
    by : (k : TokenKind) → symbol_of k ≡ identifier w → Ok k → IsTrue (is_identifier w)
    by (kind.Word u) e h = let free = identifier_word u w (keyword_of u) e in subst (λ v. IsTrue (is_identifier v)) free.0 (and_from _ _ h free.1)
    by (kind.Number n) e h = absurd (cc)
    by (kind.Text t) e h = absurd (cc)
    by (kind.Punct p) e h = absurd (cc)

pub given_number : {n : Option ℤ} → IsGiven (number n) → Ok (kind.Number n)
given_number {n} g = by g.0 g.1 g.2
  where
    word_is_none : (u : List ℕ) (o : Option Word) → word_symbol u o ≡ number n → ⊥
    word_is_none u (Some k) e = cc
    word_is_none u None e = in_turn (is_unused_word u) e
      where
        in_turn : (b : Bool) → (if b then unused u else identifier u) ≡ number n → ⊥
        in_turn true e = cc
        in_turn false e = cc

    by : (k : TokenKind) → symbol_of k ≡ number n → Ok k → Ok (kind.Number n)
    by (kind.Word u) e h = absurd (word_is_none u (keyword_of u) e)
    by (kind.Number m) e h = let same : m ≡ n = cc in subst (λ v. Ok (kind.Number v)) same h
    by (kind.Text t) e h = absurd (cc)
    by (kind.Punct p) e h = absurd (cc)

pub given_text : {t : List ℕ} → IsGiven (text t) → Ok (kind.Text t)
given_text {t} g = by g.0 g.1 g.2
  where
    word_is_none : (u : List ℕ) (o : Option Word) → word_symbol u o ≡ text t → ⊥
    word_is_none u (Some k) e = cc
    word_is_none u None e = in_turn (is_unused_word u) e
      where
        in_turn : (b : Bool) → (if b then unused u else identifier u) ≡ text t → ⊥
        in_turn true e = cc
        in_turn false e = cc

    by : (k : TokenKind) → symbol_of k ≡ text t → Ok k → Ok (kind.Text t)
    by (kind.Word u) e h = absurd (word_is_none u (keyword_of u) e)
    by (kind.Number m) e h = absurd (cc)
    by (kind.Text u) e h = let same : u ≡ t = cc in subst (λ v. Ok (kind.Text v)) same h
    by (kind.Punct p) e h = absurd (cc)

-- the name behind a point
pub given_name : {s : Symbol} {w : List ℕ} → IsGiven s → member_name s ≡ Some w → Ok (kind.Word w)
given_name {s} {w} g e = by g.0 (ap member_name g.1 ∙ e) g.2
  where
    by : (k : TokenKind) → member_name (symbol_of k) ≡ Some w → Ok k → Ok (kind.Word w)
    by (kind.Word u) e h = subst (λ v. Ok (kind.Word v)) (member_word u w (keyword_of u) refl e) h
    by (kind.Number n) e h = absurd (cc)
    by (kind.Text t) e h = absurd (cc)
    by (kind.Punct p) e h = absurd (cc)

-- a name in an object literal
pub given_field : {s : Symbol} {w : List ℕ} → IsGiven s → field_name s ≡ Some w → Ok (kind.Text w)
given_field {s} {w} g e = by g.0 (ap field_name g.1 ∙ e) g.2
  where
    by : (k : TokenKind) → field_name (symbol_of k) ≡ Some w → Ok k → Ok (kind.Text w)
    by (kind.Word u) e h = subst (λ v. Ok (kind.Text v)) (member_word u w (keyword_of u) refl (sym (field_word u (keyword_of u)) ∙ e)) (and_parts (is_identifier_name u) _ h).1
    by (kind.Number n) e h = let same : number_text n ≡ w = cc in subst (λ v. Ok (kind.Text v)) same (number_is_written n h)
    by (kind.Text t) e h = let same : t ≡ w = cc in subst (λ v. Ok (kind.Text v)) same h
    by (kind.Punct p) e h = absurd (cc)

pub given_tokens : (tokens : List Token) → All (λ t. Ok t.what) tokens → AreGiven (lexemes tokens)
given_tokens [] h = tt
given_tokens (t ∷ ts) h = ((t.what, refl, All-head (λ t. Ok t.what) t ts h), given_tokens ts (All-tail (λ t. Ok t.what) t ts h))
