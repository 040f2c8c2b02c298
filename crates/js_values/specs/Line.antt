-- The lines that a page puts out, as bytes.
use Rattle.std.specs.Prelude.{ℕ, Bool, true, false, List, [], ◌∷◌, ◌++◌, codes, if◌then◌else◌}
use Rattle.std.specs.List.{flat_map}
use Rattle.js_core.specs.LineText.{line_text}
use Rattle.js_values.specs.declared.line.Line.{Line}
use Rattle.js_values.specs.declared.line.LineKind.{LineKind}
use Rattle.js_values.specs.declared.line.LineKind.TheVariants.{Log, Alert, Uncaught, Dom, Stopped, NoElement}

-- the words of a kind
abbrev pub kind_words : LineKind → List ℕ
kind_words Log = codes "log"
kind_words Alert = codes "alert"
kind_words Uncaught = codes "uncaught"
kind_words Dom = codes "dom"
kind_words Stopped = codes "stopped"
kind_words NoElement = codes "no element"

-- a line of this kind has a text
abbrev pub has_text : LineKind → Bool
has_text Log = true
has_text Alert = true
has_text Uncaught = true
has_text Dom = true
has_text Stopped = false
has_text NoElement = false

-- a line: the words of its kind, then a space and its text where the kind has one, then LF
abbrev pub line_of : Line → List ℕ
line_of line = kind_words line.kind ++ (if has_text line.kind then codes " " ++ line_text line.text else []) ++ 10 ∷ []

-- lines, one after another
abbrev pub lines_text : List Line → List ℕ
lines_text lines = flat_map line_of lines
