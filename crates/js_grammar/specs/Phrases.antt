-- Phrases: relations between the lexemes from where a phrase begins, the lexemes behind it, and what it stands for.
use Rattle.std.specs.Prelude.{ℕ, Bool, List, [], ◌∷◌, ◌++◌}
use Rattle.js_core.specs.declared.token.Punct.{Punct}
use Rattle.js_core.specs.declared.token.Punct.TheVariants as p
use Rattle.js_core.specs.declared.keyword.Keyword.{Keyword}
use Rattle.js_grammar.specs.declared.sign.Sign.TheVariants.{Mark, Word}
use Rattle.js_grammar.specs.Symbols.{sign, identifier, Lexeme}

abbrev pub Phrase : Type 0 → Type 1
Phrase A = List Lexeme → List Lexeme → A → Type 0

-- a punctuator and a reserved word, on a new line or not
abbrev pub mark : Punct → Bool → Lexeme
mark m l = (sign (Mark m), l)

abbrev pub word : Keyword → Bool → Lexeme
word w l = (sign (Word w), l)

-- Identifier
pub data Name : List Lexeme → List Lexeme → List ℕ → Type 0 where
  name : {w : List ℕ} {l : Bool} {z : List Lexeme} → Name ((identifier w, l) ∷ z) z w

-- one item or more, with commas between them; the index is that of the last
pub data Separated {A I : Type 0} (Item : I → Phrase A) : I → List Lexeme → List Lexeme → List A → Type 0 where
  only : {i : I} {x z : List Lexeme} {a : A} → Item i x z a → Separated Item i x z (a ∷ [])
  further : {i j : I} {l : Bool} {x y z : List Lexeme} {found : List A} {a : A} → Separated Item i x (mark p.Comma l ∷ y) found → Item j y z a → Separated Item j x z (found ++ a ∷ [])

-- ( ) or ( items ), behind the (
pub data Listed {A I : Type 0} (Item : I → Phrase A) : List Lexeme → List Lexeme → List A → Type 0 where
  nothing : {l : Bool} {z : List Lexeme} → Listed Item (mark p.RightParenthesis l ∷ z) z []
  something : {i : I} {l : Bool} {x z : List Lexeme} {found : List A} → Separated Item i x (mark p.RightParenthesis l ∷ z) found → Listed Item x z found

-- any number of items
pub data Many {A : Type 0} (Item : Phrase A) : List Lexeme → List Lexeme → List A → Type 0 where
  none : {z : List Lexeme} → Many Item z z []
  more : {x y z : List Lexeme} {found : List A} {a : A} → Many Item x y found → Item y z a → Many Item x z (found ++ a ∷ [])

-- a comma behind an element, which may be left out before the closing sign
pub data Divided (close : Punct) : List Lexeme → List Lexeme → Type 0 where
  by_comma : {l : Bool} {z : List Lexeme} → Divided close (mark p.Comma l ∷ z) z
  by_close : {l : Bool} {z : List Lexeme} → Divided close (mark close l ∷ z) (mark close l ∷ z)
