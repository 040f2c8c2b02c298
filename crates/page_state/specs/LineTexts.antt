-- Texts of values in a line.
use Rattle.std.specs.Prelude.{ℕ, List, ◌++◌, codes}
use Rattle.js_values.specs.declared.value.Value.{Value}
use Rattle.page_meaning.specs.Lines.{log_text}
use Rattle.page_meaning.specs.Store.{Store}

-- a text after a space
abbrev pub spaced : Store → Value → List ℕ
spaced s v = codes " " ++ log_text s v
