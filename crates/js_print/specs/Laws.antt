-- The laws of printed texts: they have no end tag and no control character, and are ASCII but for names.
use Rattle.std.specs.Prelude.{◌≢◌, ◌<◌, nat_lt, ℕ, Bool, true, false, not, ◌&&◌, ◌==◌, IsTrue, List, [], ◌∷◌, ◌++◌, codes}
use Rattle.std.specs.List.{All, list_all}
use Rattle.js_core.specs.LineText.{is_escaped, line_text}
use Rattle.js_core.specs.Text.{utf16_of}
use Rattle.js_core.specs.Tree as tree
use Rattle.js_print.specs.declared.lexeme.Lexeme.{Lexeme}
use Rattle.js_print.specs.declared.lexeme.Lexeme.TheVariants.{Name, Number}
use Rattle.js_grammar.specs.Syntax.{IsCode, IsSyntax}
use Rattle.js_print.specs.Printing.{script_text, code_text}
use Rattle.js_print.specs.Spelling.{number_text, text_of}

-- a text in which no `<` stands before a `/`, so that `</script` in whatever case does not occur in it
abbrev pub HasNoEndTag : List ℕ → Type 0
HasNoEndTag text = (before after : List ℕ) → text ≢ before ++ (codes "</" ++ after)

-- it has a character, it does not begin with `/`, and none is `<`
abbrev pub is_harmless : List ℕ → Bool
is_harmless [] = false
is_harmless (u ∷ us) = not (u == 47) && list_all (λ v. not (v == 60)) (u ∷ us)

-- the spelling of a name or a number is so, as it is of every identifier and of every number that a token has
abbrev pub is_ordinary : Lexeme → Bool
is_ordinary (Name x) = is_harmless (line_text x)
is_ordinary (Number n) = is_harmless (number_text n)
is_ordinary x = true

abbrev pub ScriptsHaveNoEndTag : Type 0
ScriptsHaveNoEndTag = (script : tree.Stmts) → IsSyntax script → HasNoEndTag (script_text script)

abbrev pub CodesHaveNoEndTag : Type 0
CodesHaveNoEndTag = (c : tree.Code) → IsCode c → HasNoEndTag (code_text c)

-- ---- control characters

-- a unit that stands for itself in a line: no control character, U+0000 to U+001F or U+007F to U+009F, and no surrogate
abbrev pub is_free : ℕ → Bool
is_free u = not (is_escaped u)

-- no unit of the text is a control character, so none is U+0000 or a line end
abbrev pub HasNoControl : List ℕ → Type 0
HasNoControl text = IsTrue (list_all is_free (utf16_of text))

abbrev pub ScriptsHaveNoControl : Type 0
ScriptsHaveNoControl = (script : tree.Stmts) → IsSyntax script → HasNoControl (script_text script)

abbrev pub CodesHaveNoControl : Type 0
CodesHaveNoControl = (c : tree.Code) → IsCode c → HasNoControl (code_text c)

-- ---- ASCII

abbrev pub is_ascii_text : List ℕ → Bool
is_ascii_text units = list_all (λ u. nat_lt u 128) units

-- the spelling of a name or a number is ASCII, as it is of every number that a token has
abbrev pub is_spelled_in_ascii : Lexeme → Bool
is_spelled_in_ascii (Name x) = is_ascii_text (line_text x)
is_spelled_in_ascii (Number n) = is_ascii_text (number_text n)
is_spelled_in_ascii x = true

abbrev pub TextIsAscii : Type 0
TextIsAscii = (lexemes : List Lexeme) → IsTrue (list_all is_spelled_in_ascii lexemes) → All (λ u. u < 128) (text_of lexemes)
