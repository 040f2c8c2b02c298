-- The text of lexemes.
use Rattle.std.specs.Prelude.{ℕ, ℤ, pos, Bool, true, false, not, ◌&&◌, ◌==◌, nat_le, List, [], ◌∷◌, ◌++◌, Option, Some, codes, decimal, if◌then◌else◌}
use Rattle.std.specs.List.{flat_map}
use Rattle.js_core.specs.LineText.{line_text, unit_escape}
use Rattle.js_core.specs.Spelling.{keyword_text, punct_text}
use Rattle.js_print.specs.declared.lexeme.Lexeme.{Lexeme}
use Rattle.js_print.specs.declared.lexeme.Lexeme.TheVariants as lexeme

-- a unit that stands for itself in a string: 0020 to 007E but `"`, a backslash and `<`
abbrev pub is_plain : ℕ → Bool
is_plain u = nat_le 0x20 u && nat_le u 0x7E && not (u == 0x22) && not (u == 0x5C) && not (u == 0x3C)

-- a unit of a string: `"` and a backslash behind a backslash, any other that does not stand for itself as `\u` and its
-- four upper-case hexadecimal digits
abbrev pub string_unit : ℕ → List ℕ
string_unit u = if is_plain u then u ∷ []
    else (if u == 0x22 then codes "\\\"" else (if u == 0x5C then codes "\\\\" else unit_escape u))

-- a string in double quotes
abbrev pub string_text : List ℕ → List ℕ
string_text units = codes "\"" ++ (flat_map string_unit units ++ codes "\"")

-- a number in decimal; of one that no token has, NaN or a negative one, nothing is printed
abbrev pub number_text : Option ℤ → List ℕ
number_text (Some (pos n)) = decimal n
number_text n = []

-- a lexeme; a name, which has no control character, backslash or lone surrogate, is UTF-8, as it stands in a line
abbrev pub lexeme_text : Lexeme → List ℕ
lexeme_text (lexeme.Keyword k) = keyword_text k
lexeme_text (lexeme.Name x) = line_text x
lexeme_text (lexeme.Number n) = number_text n
lexeme_text (lexeme.Text x) = string_text x
lexeme_text (lexeme.Punct p) = punct_text p

-- it begins and ends with an identifier character
abbrev pub is_word : Lexeme → Bool
is_word (lexeme.Keyword k) = true
is_word (lexeme.Name x) = true
is_word (lexeme.Number n) = true
is_word (lexeme.Text x) = false
is_word (lexeme.Punct p) = false

-- the space between two lexemes of which these tell whether they are words
abbrev pub space_between : Bool → Bool → List ℕ
space_between true true = codes " "
space_between a b = []

-- the text of lexemes, where the one before them is a word or not
abbrev pub text_after : Bool → List Lexeme → List ℕ
text_after after_word [] = []
text_after after_word (x ∷ xs) = space_between after_word (is_word x) ++ (lexeme_text x ++ text_after (is_word x) xs)

-- the text of lexemes: one space between two exactly where both are words
abbrev pub text_of : List Lexeme → List ℕ
text_of lexemes = text_after false lexemes
