-- How the code reads: what it answers, on lists.
use Rattle.js_core.specs.declared.token.Punct.{Punct}
use Rattle.js_core.specs.declared.token.Punct.TheVariants.{ShiftRightUnsignedAssign, StrictEquals, StrictNotEquals, ShiftRightUnsigned, ShiftLeftAssign, ShiftRightAssign, LessThanOrEqual, GreaterThanOrEqual, Equals, NotEquals, PlusPlus, MinusMinus, ShiftLeft, ShiftRight, DoubleAmpersand, DoubleVerticalBar, PlusAssign, MinusAssign, StarAssign, PercentAssign, AmpersandAssign, VerticalBarAssign, CaretAssign, SlashAssign, LeftBrace, RightBrace, LeftParenthesis, RightParenthesis, LeftBracket, RightBracket, Dot, Semicolon, Comma, LessThan, GreaterThan, PlusSign, MinusSign, Star, Percent, Ampersand, VerticalBar, Caret, ExclamationMark, Tilde, QuestionMark, Colon, SimpleAssign, Slash}
use Rattle.std.specs.Prelude.{ℕ, ℤ, pos, Bool, true, false, ◌||◌, ◌&&◌, ◌==◌, List, [], ◌∷◌, Option, Some, None}
use Rattle.js_core.specs.Whole.{whole_of}
use Rattle.js_lexer.specs.Characters.{is_decimal_digit, is_identifier_start}

-- the text begins with these codes
abbrev pub is_front : List ℕ → List ℕ → Bool
is_front [] us = true
is_front (c ∷ cs) [] = false
is_front (c ∷ cs) (u ∷ us) = (u == c) && is_front cs us

-- all punctuators, the longest first
abbrev pub punctuators : List Punct
punctuators = ShiftRightUnsignedAssign ∷ StrictEquals ∷ StrictNotEquals ∷ ShiftRightUnsigned ∷ ShiftLeftAssign ∷ ShiftRightAssign ∷ LessThanOrEqual ∷ GreaterThanOrEqual ∷ Equals ∷ NotEquals ∷ PlusPlus ∷ MinusMinus ∷ ShiftLeft ∷ ShiftRight ∷ DoubleAmpersand ∷ DoubleVerticalBar ∷ PlusAssign ∷ MinusAssign ∷ StarAssign ∷ PercentAssign ∷ AmpersandAssign ∷ VerticalBarAssign ∷ CaretAssign ∷ SlashAssign ∷ LeftBrace ∷ RightBrace ∷ LeftParenthesis ∷ RightParenthesis ∷ LeftBracket ∷ RightBracket ∷ Dot ∷ Semicolon ∷ Comma ∷ LessThan ∷ GreaterThan ∷ PlusSign ∷ MinusSign ∷ Star ∷ Percent ∷ Ampersand ∷ VerticalBar ∷ Caret ∷ ExclamationMark ∷ Tilde ∷ QuestionMark ∷ Colon ∷ SimpleAssign ∷ Slash ∷ []

-- the number of a literal, where it is one of the language
abbrev pub whole_from : Option ℕ → Option (Option ℤ)
whole_from None = None
whole_from (Some value) = whole_of (pos value)

-- what a numeric literal is made of, and what may not follow it but a point
abbrev pub is_literal_part : ℕ → Bool
is_literal_part u = is_decimal_digit u || is_identifier_start u
