-- Words, and the symbols that they are.
use Rattle.std.proofs.Common.{◌≡◌, ◌≢◌, ℕ, Bool, true, false, List, [], ◌∷◌, length, Option, Some, None, refl, sym, ap, ◌∙◌, arith}
use Rattle.std.specs.Prelude.{if◌then◌else◌}
use Rattle.std.specs.List.{find}
use Rattle.std.specs.Str.{bytes_eq}
use Rattle.std.proofs.lemmas.Slice.Eq.{bytes_eq-Decides}
use Rattle.js_core.specs.Spelling.{keyword_of, keyword_text, keywords, is_unused_word}
use Rattle.js_core.specs.declared.keyword.Keyword.{Keyword}
use Rattle.js_core.specs.declared.token.Token.{Token}
use Rattle.js_grammar.specs.Symbols.{Symbol, unused, identifier, word_symbol, member_name, field_name, lexemes, sign_of}
use Rattle.js_grammar.specs.ExpressionReader.{identifier_of}

pub same_length : (ts : List Token) → length (lexemes ts) ≡ length ts
same_length [] = refl
same_length (t ∷ ts) = let e = same_length ts in omega arith

found_passes : {A : Type 0} (p : A → Bool) (xs : List A) (a : A) → find p xs ≡ Some a → p a ≡ true
found_passes p [] a e = absurd (cc)
found_passes p (x ∷ xs) a e = by_case (p x) refl (found_passes p xs a) e
  where
    by_case : (b : Bool) → p x ≡ b → (find p xs ≡ Some a → p a ≡ true) → (if b then Some x else find p xs) ≡ Some a → p a ≡ true
    by_case true h rest e = let same : x ≡ a = cc in ap p (sym same) ∙ h
    by_case false h rest e = rest e

keyword_spelled : (w : List ℕ) (k : Keyword) → keyword_of w ≡ Some k → keyword_text k ≡ w
keyword_spelled w k e = sym ((bytes_eq-Decides w (keyword_text k)).0 (found_passes (λ k. bytes_eq w (keyword_text k)) keywords k e))

-- each word is a name of a property, and one in an object literal
pub member_of_word : (w : List ℕ) → member_name (word_symbol w (keyword_of w)) ≡ Some w
member_of_word w = by_keyword (keyword_of w) refl
  where
    by_use : (b : Bool) → member_name (if b then unused w else identifier w) ≡ Some w
    by_use true = refl
    by_use false = refl

    by_keyword : (k : Option Keyword) → keyword_of w ≡ k → member_name (word_symbol w k) ≡ Some w
    by_keyword None e = by_use (is_unused_word w)
    by_keyword (Some k) e = ap Some (keyword_spelled w k e)

pub field_of_word : (w : List ℕ) → field_name (word_symbol w (keyword_of w)) ≡ Some w
field_of_word w = by_keyword (keyword_of w) refl
  where
    by_use : (b : Bool) → field_name (if b then unused w else identifier w) ≡ Some w
    by_use true = refl
    by_use false = refl

    by_keyword : (k : Option Keyword) → keyword_of w ≡ k → field_name (word_symbol w k) ≡ Some w
    by_keyword None e = by_use (is_unused_word w)
    by_keyword (Some k) e = ap Some (keyword_spelled w k e)

-- a word that is no sign is an identifier, unless it is reserved
pub identifier_of_word : (w : List ℕ) → sign_of (word_symbol w (keyword_of w)) ≡ None → identifier_of (word_symbol w (keyword_of w)) ≡ (if is_unused_word w then None else Some w)
identifier_of_word w e = by_keyword (keyword_of w) e
  where
    by_use : (b : Bool) → identifier_of (if b then unused w else identifier w) ≡ (if b then None else Some w)
    by_use true = refl
    by_use false = refl

    by_keyword : (k : Option Keyword) → sign_of (word_symbol w k) ≡ None → identifier_of (word_symbol w k) ≡ (if is_unused_word w then None else Some w)
    by_keyword None e = by_use (is_unused_word w)
    by_keyword (Some k) e = absurd (cc)

-- a sign is no identifier
pub identifier_of_sign : (s : Symbol) → sign_of s ≢ None → identifier_of s ≡ None
identifier_of_sign (identifier w) e = absurd (e refl)
identifier_of_sign s e = refl
