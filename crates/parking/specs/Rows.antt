-- The rows of parked sessions: which version is the next one of a name, and the lines that commands write of rows.
use Rattle.std.specs.Prelude.{ℕ, ◌+◌, ◌≤◌, Bool, max, nat_eq, List, [], ◌∷◌, ◌++◌, map, bytes_eq, if◌then◌else◌}
use Rattle.std.specs.List.{list_any}
use Rattle.std.specs.FinMap.{entries}
use Rattle.js_core.specs.LineText.{line_text}
use Rattle.js_core.specs.Text.{utf16_of}
use Rattle.page_io.specs.Table.{Table, kept_name}
use Rattle.page_io.specs.declared.keeper.KeptName.{KeptName}
use Rattle.outcomes.specs.Numbers.{number_words}

-- the last version that a session may have
abbrev pub last_version : ℕ
last_version = 1000000000

-- the greatest version of the rows of this name, which is in 16-bit units; 0 where there is none
abbrev pub greatest : List ℕ → List KeptName → ℕ
greatest name [] = 0
greatest name (row ∷ rows) = if bytes_eq row.name name then max row.version (greatest name rows) else greatest name rows

abbrev pub listed : Table → List KeptName
listed t = map kept_name (entries t)

-- one more than the greatest version of the name, and 1 where there is no row of it
abbrev pub next_version : List ℕ → Table → ℕ
next_version name t = greatest (utf16_of name) (listed t) + 1

-- no version is left for the name
abbrev pub AreUsed : List ℕ → Table → Type 0
AreUsed name t = last_version ≤ greatest (utf16_of name) (listed t)

-- what was done, the name and the version of a row, and LF
abbrev pub row_line : List ℕ → List ℕ → ℕ → List ℕ
row_line done name version = done ++ (name ++ (number_words version ++ 10 ∷ []))

-- a row as it is listed: its name, its version and how many bytes it has
abbrev pub size_line : KeptName → List ℕ
size_line row = line_text row.name ++ (number_words row.version ++ (number_words row.size ++ 10 ∷ []))

-- whether a row is listed: its name has no dot
abbrev pub is_hidden : KeptName → Bool
is_hidden row = list_any (λ u. nat_eq u 46) row.name

-- the rows that are listed, in order
abbrev pub listed_text : List KeptName → List ℕ
listed_text [] = []
listed_text (row ∷ rows) = (if is_hidden row then [] else size_line row) ++ listed_text rows
