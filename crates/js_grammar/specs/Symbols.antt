-- The terminal symbols of the grammar, as tokens give them.
use Rattle.std.specs.Prelude.{ℕ, suc, ◌++◌, ℤ, pos, negsuc, Bool, false, if◌then◌else◌, List, [], ◌∷◌, Option, Some, None, codes, decimal}
use denote.Enum.Bare.{sameb}
use Rattle.js_core.specs.Spelling.{keyword_of, keyword_text, is_unused_word}
use Rattle.js_core.specs.declared.token.Token.{Token}
use Rattle.js_core.specs.declared.token.TokenKind.{TokenKind}
use Rattle.js_core.specs.declared.token.TokenKind.TheVariants as kind
use Rattle.js_core.specs.declared.keyword.Keyword.{Keyword}
use Rattle.js_core.specs.contracts.keyword.Keyword as keyword
use Rattle.js_core.specs.contracts.token.Punct as punct
use Rattle.js_grammar.specs.declared.sign.Sign.{Sign}
use Rattle.js_grammar.specs.declared.sign.Sign.TheVariants.{Mark, Word}

pub data Symbol : Type 0 where
  sign : Sign → Symbol
  -- an identifier: a word that is not reserved
  identifier : List ℕ → Symbol
  -- a reserved word that stands in no form
  unused : List ℕ → Symbol
  number : Option ℤ → Symbol
  text : List ℕ → Symbol

-- a symbol, and whether a line end stands before it
abbrev pub Lexeme : Type 0
Lexeme = Symbol × Bool

-- ---- tokens

abbrev pub word_symbol : List ℕ → Option Keyword → Symbol
word_symbol w (Some k) = sign (Word k)
word_symbol w None = if is_unused_word w then unused w else identifier w

abbrev pub symbol_of : TokenKind → Symbol
symbol_of (kind.Word w) = word_symbol w (keyword_of w)
symbol_of (kind.Number n) = number n
symbol_of (kind.Text t) = text t
symbol_of (kind.Punct p) = sign (Mark p)

abbrev pub lexeme_of : Token → Lexeme
lexeme_of t = (symbol_of t.what, t.after_line)

abbrev pub lexemes : List Token → List Lexeme
lexemes [] = []
lexemes (t ∷ ts) = lexeme_of t ∷ lexemes ts

-- ---- signs

abbrev pub sign_of : Symbol → Option Sign
sign_of (sign s) = Some s
sign_of s = None

-- the sign that comes next, where one does
abbrev pub sign_at : List Lexeme → Option Sign
sign_at [] = None
sign_at (t ∷ ts) = sign_of t.0

-- whether it is this one
abbrev pub is_sign : Sign → Option Sign → Bool
is_sign (Mark m) (Some (Mark n)) = sameb punct.the_type n m
is_sign (Word m) (Some (Word n)) = sameb keyword.the_type n m
is_sign s t = false

-- ---- names of properties

-- the name that stands behind a point (section 11.2): any word
abbrev pub member_name : Symbol → Option (List ℕ)
member_name (identifier w) = Some w
member_name (unused w) = Some w
member_name (sign (Word k)) = Some (keyword_text k)
member_name s = None

-- a number as a text (section 9.8.1)
abbrev pub number_text : Option ℤ → List ℕ
number_text None = codes "NaN"
number_text (Some (pos n)) = decimal n
number_text (Some (negsuc n)) = codes "-" ++ decimal (suc n)

-- a name in an object literal (section 11.1.5): a word, a text, or a number, which stands for its text
abbrev pub field_name : Symbol → Option (List ℕ)
field_name (number n) = Some (number_text n)
field_name (text t) = Some t
field_name s = member_name s
