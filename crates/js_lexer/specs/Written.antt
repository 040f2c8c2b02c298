-- Which tokens a text can have.
use Rattle.std.specs.Prelude.{ℕ, ℤ, pos, nat_lt, nat_le, Bool, true, false, ◌&&◌, List, Option, Some}
use Rattle.std.specs.List.{list_all}
use Rattle.js_core.specs.Whole.{largest}
use Rattle.js_core.specs.declared.token.TokenKind.{TokenKind}
use Rattle.js_core.specs.declared.token.TokenKind.TheVariants.{Word, Number, Text, Punct}
use Rattle.js_lexer.specs.Characters.{is_identifier_start, is_identifier_part, begins_with}

-- a 16-bit unit
abbrev pub is_unit : ℕ → Bool
is_unit u = nat_lt u 65536

-- an identifier name (section 7.6)
abbrev pub is_identifier_name : List ℕ → Bool
is_identifier_name w = begins_with is_identifier_start w && list_all is_identifier_part w

-- a number that a literal writes
abbrev pub is_literal_value : Option ℤ → Bool
is_literal_value (Some (pos n)) = nat_le n largest
is_literal_value n = false

-- some text of 16-bit units has the token
abbrev pub can_be_written : TokenKind → Bool
can_be_written (Word w) = is_identifier_name w && list_all is_unit w
can_be_written (Number n) = is_literal_value n
can_be_written (Text t) = list_all is_unit t
can_be_written (Punct p) = true
