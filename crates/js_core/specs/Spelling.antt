-- How punctuators and reserved words are written.
use Rattle.std.specs.Prelude.{ℕ, Bool, ◌||◌, List, [], ◌∷◌, Option, codes}
use Rattle.std.specs.Str.{bytes_eq}
use Rattle.std.specs.List.{list_any, find}
use Rattle.std.specs.Option.{is_some}
use Rattle.js_core.specs.declared.keyword.Keyword.{Keyword}
use Rattle.js_core.specs.declared.keyword.Keyword.TheVariants as keyword
use Rattle.js_core.specs.declared.token.Punct.{Punct}
use Rattle.js_core.specs.declared.token.Punct.TheVariants as punct

-- a punctuator (ECMA-262 5.1 section 7.7)
abbrev pub punct_text : Punct → List ℕ
punct_text punct.LeftBrace = codes "{"
punct_text punct.RightBrace = codes "}"
punct_text punct.LeftParenthesis = codes "("
punct_text punct.RightParenthesis = codes ")"
punct_text punct.LeftBracket = codes "["
punct_text punct.RightBracket = codes "]"
punct_text punct.Dot = codes "."
punct_text punct.Semicolon = codes ";"
punct_text punct.Comma = codes ","
punct_text punct.LessThan = codes "<"
punct_text punct.GreaterThan = codes ">"
punct_text punct.LessThanOrEqual = codes "<="
punct_text punct.GreaterThanOrEqual = codes ">="
punct_text punct.Equals = codes "=="
punct_text punct.NotEquals = codes "!="
punct_text punct.StrictEquals = codes "==="
punct_text punct.StrictNotEquals = codes "!=="
punct_text punct.PlusSign = codes "+"
punct_text punct.MinusSign = codes "-"
punct_text punct.Star = codes "*"
punct_text punct.Percent = codes "%"
punct_text punct.PlusPlus = codes "++"
punct_text punct.MinusMinus = codes "--"
punct_text punct.ShiftLeft = codes "<<"
punct_text punct.ShiftRight = codes ">>"
punct_text punct.ShiftRightUnsigned = codes ">>>"
punct_text punct.Ampersand = codes "&"
punct_text punct.VerticalBar = codes "|"
punct_text punct.Caret = codes "^"
punct_text punct.ExclamationMark = codes "!"
punct_text punct.Tilde = codes "~"
punct_text punct.DoubleAmpersand = codes "&&"
punct_text punct.DoubleVerticalBar = codes "||"
punct_text punct.QuestionMark = codes "?"
punct_text punct.Colon = codes ":"
punct_text punct.SimpleAssign = codes "="
punct_text punct.PlusAssign = codes "+="
punct_text punct.MinusAssign = codes "-="
punct_text punct.StarAssign = codes "*="
punct_text punct.PercentAssign = codes "%="
punct_text punct.ShiftLeftAssign = codes "<<="
punct_text punct.ShiftRightAssign = codes ">>="
punct_text punct.ShiftRightUnsignedAssign = codes ">>>="
punct_text punct.AmpersandAssign = codes "&="
punct_text punct.VerticalBarAssign = codes "|="
punct_text punct.CaretAssign = codes "^="
punct_text punct.Slash = codes "/"
punct_text punct.SlashAssign = codes "/="

-- a reserved word that stands in a form of the language (section 7.6.1)
abbrev pub keyword_text : Keyword → List ℕ
keyword_text keyword.Break = codes "break"
keyword_text keyword.Case = codes "case"
keyword_text keyword.Catch = codes "catch"
keyword_text keyword.Continue = codes "continue"
keyword_text keyword.Default = codes "default"
keyword_text keyword.Delete = codes "delete"
keyword_text keyword.Do = codes "do"
keyword_text keyword.Else = codes "else"
keyword_text keyword.False = codes "false"
keyword_text keyword.Finally = codes "finally"
keyword_text keyword.For = codes "for"
keyword_text keyword.Function = codes "function"
keyword_text keyword.If = codes "if"
keyword_text keyword.In = codes "in"
keyword_text keyword.InstanceOf = codes "instanceof"
keyword_text keyword.New = codes "new"
keyword_text keyword.Null = codes "null"
keyword_text keyword.Return = codes "return"
keyword_text keyword.Switch = codes "switch"
keyword_text keyword.This = codes "this"
keyword_text keyword.Throw = codes "throw"
keyword_text keyword.True = codes "true"
keyword_text keyword.Try = codes "try"
keyword_text keyword.Typeof = codes "typeof"
keyword_text keyword.Var = codes "var"
keyword_text keyword.Void = codes "void"
keyword_text keyword.While = codes "while"

abbrev pub keywords : List Keyword
keywords =
    keyword.Break ∷ keyword.Case ∷ keyword.Catch ∷ keyword.Continue ∷ keyword.Default ∷ keyword.Delete
    ∷ keyword.Do ∷ keyword.Else ∷ keyword.False ∷ keyword.Finally ∷ keyword.For ∷ keyword.Function
    ∷ keyword.If ∷ keyword.In ∷ keyword.InstanceOf ∷ keyword.New ∷ keyword.Null ∷ keyword.Return
    ∷ keyword.Switch ∷ keyword.This ∷ keyword.Throw ∷ keyword.True ∷ keyword.Try ∷ keyword.Typeof
    ∷ keyword.Var ∷ keyword.Void ∷ keyword.While ∷ []

-- the other reserved words, those of strict code too
abbrev pub unused_words : List (List ℕ)
unused_words =
    codes "debugger" ∷ codes "with" ∷ codes "class" ∷ codes "const" ∷ codes "enum" ∷ codes "export"
    ∷ codes "extends" ∷ codes "import" ∷ codes "super" ∷ codes "implements" ∷ codes "interface" ∷ codes "let"
    ∷ codes "package" ∷ codes "private" ∷ codes "protected" ∷ codes "public" ∷ codes "static" ∷ codes "yield" ∷ []

-- the keyword that the word is
abbrev pub keyword_of : List ℕ → Option Keyword
keyword_of word = find (λ k. bytes_eq word (keyword_text k)) keywords

abbrev pub is_unused_word : List ℕ → Bool
is_unused_word word = list_any (bytes_eq word) unused_words

-- no identifier
abbrev pub is_reserved_word : List ℕ → Bool
is_reserved_word word = is_some (keyword_of word) || is_unused_word word
