-- Which lexemes and tokens can be written, and that printed lexemes are read back.
use Rattle.std.specs.Prelude.{ℕ, IsTrue, IsUtf8, List}
use Rattle.std.specs.List.{All}
use Rattle.js_core.specs.Text.{AllUnits, utf16_of}
use Rattle.js_core.specs.Tree as tree
use Rattle.js_core.specs.declared.token.Token.{Token}
pub use Rattle.js_lexer.specs.Written.{is_unit, is_identifier_name, is_literal_value, can_be_written}
use Rattle.js_lexer.specs.Tokens.{Tokens}
use Rattle.js_grammar.specs.Scripts.{Derives}
use Rattle.js_grammar.specs.Syntax.{IsCode, IsSyntax}
use Rattle.js_print.specs.declared.lexeme.Lexeme.{Lexeme}
use Rattle.js_print.specs.Lexemes.{code_lexemes, stmts_lexemes}
use Rattle.js_print.specs.ReadBack.{kind_of, AreTokensOf}
use Rattle.js_print.specs.Spelling.{text_of}

-- the tokens of a text can be
abbrev pub TokensCanBeWritten : Type 0
TokensCanBeWritten = (text : List ℕ) (tokens : List Token) → AllUnits text → Tokens text tokens → All (λ t. IsTrue (can_be_written t.what)) tokens

-- each lexeme can be written
abbrev pub CanBeWritten : List Lexeme → Type 0
CanBeWritten lexemes = All (λ x. IsTrue (can_be_written (kind_of x))) lexemes

-- as those of a script and of a function that keep the rules on trees can

abbrev pub LexemesCanBeWritten : Type 0
LexemesCanBeWritten = (script : tree.Stmts) → IsSyntax script → CanBeWritten (stmts_lexemes script)

abbrev pub CodesCanBeWritten : Type 0
CodesCanBeWritten = (c : tree.Code) → IsCode c → CanBeWritten (code_lexemes c)

-- some tokens that can be written derive the script
abbrev pub SyntaxHasTokens : Type 0
SyntaxHasTokens = (script : tree.Stmts) → IsSyntax script → (tokens : List Token) × All (λ t. IsTrue (can_be_written t.what)) tokens × Derives tokens script

-- the printed text is UTF-8, and in its units the lexemes are the tokens, with no line end before one
abbrev pub IsReadBack : List Lexeme → Type 0
IsReadBack lexemes = IsUtf8 (text_of lexemes) × ((tokens : List Token) × Tokens (utf16_of (text_of lexemes)) tokens × AreTokensOf lexemes tokens)

abbrev pub ScriptsAreReadBack : Type 0
ScriptsAreReadBack = (script : tree.Stmts) → CanBeWritten (stmts_lexemes script) → IsReadBack (stmts_lexemes script)

abbrev pub CodesAreReadBack : Type 0
CodesAreReadBack = (c : tree.Code) → CanBeWritten (code_lexemes c) → IsReadBack (code_lexemes c)
