-- A text and its tokens (section 7).
use Rattle.std.specs.Prelude.{◌≡◌, ℕ, ◌-◌, ◌≤◌, Bool, true, false, List, [], ◌∷◌, ◌++◌, length, pos, Some}
use Rattle.std.specs.List.{list_all}
use Rattle.js_core.specs.Whole.{largest}
use Rattle.js_core.specs.declared.token.Punct.{Punct}
use Rattle.js_core.specs.declared.token.Token.{Token}
use Rattle.js_core.specs.declared.token.TokenKind.{TokenKind}
use Rattle.js_core.specs.declared.token.TokenKind.TheVariants.{Word, Number, Text, Punct as Punctuator}
use Rattle.js_lexer.specs.Characters.{is_identifier_start, is_identifier_part, is_quote, begins_with}
use Rattle.js_lexer.specs.Separators.{Gap}
use Rattle.js_lexer.specs.Numbers.{value_of, is_refused_behind_number}
use Rattle.js_lexer.specs.Strings.{Closes}
use Rattle.js_lexer.specs.Punctuators.{StandsAt}

-- the text begins with an identifier name or a reserved word, and no more of one follows (section 7.6)
pub record WordAt (text units rest : List ℕ) : Type 0 where
  pub joined : text ≡ units ++ rest
  pub starts : begins_with is_identifier_start units ≡ true
  pub goes_on : list_all is_identifier_part units ≡ true
  pub ends : begins_with is_identifier_part rest ≡ false

-- the text begins with a number of the language, and nothing follows that may not
pub record NumberAt (text rest : List ℕ) (value : ℕ) : Type 0 where
  pub units : List ℕ
  pub joined : text ≡ units ++ rest
  pub writes : value_of units ≡ Some value
  pub in_range : value ≤ largest
  pub ends : begins_with is_refused_behind_number rest ≡ false

-- the longest token with which a text begins: what stands behind it, and what it is
pub data TokenAt : List ℕ → List ℕ → TokenKind → Type 0 where
  word : (text units rest : List ℕ) → WordAt text units rest → TokenAt text rest (Word units)
  number : (text rest : List ℕ) (value : ℕ) → NumberAt text rest value → TokenAt text rest (Number (Some (pos value)))
  string : (quote : ℕ) (behind rest value : List ℕ) → is_quote quote ≡ true → Closes quote behind rest value → TokenAt (quote ∷ behind) rest (Text value)
  punctuator : (text rest : List ℕ) (punct : Punct) → StandsAt text rest punct → TokenAt text rest (Punctuator punct)

-- the tokens of the last part of a text of so many units: a gap stands before each of them, and behind the last. A
-- token's span is told by how many units of the text stand before it and up to its end.
pub data TokensOf (size : ℕ) : List ℕ → List Token → Type 0 where
  none : (text : List ℕ) (line : Bool) → Gap text [] line → TokensOf size text []
  more : (text behind rest : List ℕ) (line : Bool) (what : TokenKind) (tokens : List Token) → Gap text behind line → TokenAt behind rest what → TokensOf size rest tokens → TokensOf size text (record { what = what; start = size - length behind; end = size - length rest; after_line = line } ∷ tokens)

-- the text has these tokens
abbrev pub Tokens : List ℕ → List Token → Type 0
Tokens text tokens = TokensOf (length text) text tokens
