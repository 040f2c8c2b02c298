-- Directive prologues (section 14.1), and what goes on with an expression (section 7.9).
use Rattle.std.specs.Prelude.{◌≡◌, ℕ, ◌+◌, Bool, true, false, not, ◌||◌, ◌&&◌, ◌==◌, if◌then◌else◌, List, [], ◌∷◌, Option, Some, None, codes}
use Rattle.std.specs.Str.{bytes_eq}
use Rattle.js_core.specs.Spelling.{keyword_of}
use Rattle.js_core.specs.declared.keyword.Keyword.{Keyword}
use Rattle.js_core.specs.declared.keyword.Keyword.TheVariants.{In, InstanceOf}
use Rattle.js_core.specs.declared.token.Punct.{Punct}
use Rattle.js_core.specs.declared.token.Punct.TheVariants.{LeftBrace, RightBrace, RightParenthesis, RightBracket, Semicolon, PlusPlus, MinusMinus, ExclamationMark, Tilde, Colon}
use Rattle.js_core.specs.declared.token.Token.{Token}
use Rattle.js_core.specs.declared.token.TokenKind.{TokenKind}
use Rattle.js_core.specs.declared.token.TokenKind.TheVariants.{Word, Number, Text, Punct as Punctuator}

-- ---- what goes on with an expression that stands before it, in any statement

-- an operator that takes an expression before it, a comma, or `(`, `[` or `.`: all punctuators but these
abbrev pub punct_continues : Punct → Bool
punct_continues LeftBrace = false
punct_continues RightBrace = false
punct_continues RightParenthesis = false
punct_continues RightBracket = false
punct_continues Semicolon = false
punct_continues PlusPlus = false
punct_continues MinusMinus = false
punct_continues ExclamationMark = false
punct_continues Tilde = false
punct_continues Colon = false
punct_continues _ = true

-- two operators are reserved words
abbrev pub word_continues : Option Keyword → Bool
word_continues (Some In) = true
word_continues (Some InstanceOf) = true
word_continues word = false

abbrev pub continues : TokenKind → Bool
continues (Word word) = word_continues (keyword_of word)
continues (Number number) = false
continues (Text text) = false
continues (Punctuator punct) = punct_continues punct

-- ---- directives

abbrev pub is_semicolon : TokenKind → Bool
is_semicolon (Punctuator Semicolon) = true
is_semicolon _ = false

abbrev pub is_right_brace : TokenKind → Bool
is_right_brace (Punctuator RightBrace) = true
is_right_brace _ = false

-- what stands behind the semicolon of an expression statement. It may be left out at the end, before `}`, and at a line
-- end before a token that does not continue the expression (section 7.9).
unfoldable pub behind_statement : List Token → Option (List Token)
behind_statement [] = Some []
behind_statement (t ∷ ts) =
    if is_semicolon t.what then Some ts
    else (if is_right_brace t.what || (t.after_line && not (continues t.what)) then Some (t ∷ ts) else None)

abbrev pub is_text : TokenKind → Bool
is_text (Text text) = true
is_text _ = false

abbrev pub is_text_of : List ℕ → TokenKind → Bool
is_text_of units (Text text) = bytes_eq text units
is_text_of units _ = false

-- `"use strict"` or `'use strict'`: with an escape or a line continuation it would have more than 12 units
unfoldable pub is_use_strict : Token → Bool
is_use_strict t = is_text_of (codes "use strict") t.what && (t.start + 12 == t.end)

-- the tokens begin with directives, string literals that are statements, and one of these is the strict directive
pub data IsStrict : List Token → Type 0 where
  here : (token : Token) (tokens behind : List Token) → is_use_strict token ≡ true → behind_statement tokens ≡ Some behind → IsStrict (token ∷ tokens)
  later : (token : Token) (tokens behind : List Token) → is_text token.what ≡ true → behind_statement tokens ≡ Some behind → IsStrict behind → IsStrict (token ∷ tokens)
