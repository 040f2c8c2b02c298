-- The text of a page from the units that stand in its file, and the places of its units in the file's bytes.
use Rattle.std.specs.Prelude.{ℕ, ◌+◌, ◌-◌, Bool, false, ◌&&◌, ◌==◌, if◌then◌else◌, List, [], ◌∷◌, drop}
use Rattle.std.specs.List.{list_any}
use Rattle.std.specs.Int.{is_in_range}

-- the text begins with a byte order mark
abbrev pub has_mark : List ℕ → Bool
has_mark [] = false
has_mark (u ∷ us) = u == 65279

-- the text behind a byte order mark, where it begins with one, and the bytes of that mark
abbrev pub without_mark : List ℕ → List ℕ
without_mark us = if has_mark us then drop 1 us else us

abbrev pub mark_size : List ℕ → ℕ
mark_size us = if has_mark us then 3 else 0

-- the text begins with LF
abbrev pub begins_with_line_feed : List ℕ → Bool
begins_with_line_feed [] = false
begins_with_line_feed (u ∷ us) = u == 10

-- the unit is the CR of a CR LF
abbrev pub is_half : ℕ → List ℕ → Bool
is_half u us = (u == 13) && begins_with_line_feed us

-- CR alone is LF
abbrev pub line_feed : ℕ → ℕ
line_feed u = if u == 13 then 10 else u

-- the text with its line ends made LF: CR LF is one, and so is a CR alone
abbrev pub with_line_feeds : List ℕ → List ℕ
with_line_feeds [] = []
with_line_feeds (u ∷ us) = if is_half u us then with_line_feeds us else line_feed u ∷ with_line_feeds us

-- the text that the units of a page are read as
abbrev pub page_text : List ℕ → List ℕ
page_text us = with_line_feeds (without_mark us)

-- U+0000 stands somewhere in the text
abbrev pub has_zero : List ℕ → Bool
has_zero us = list_any (λ u. u == 0) us

-- the bytes of a unit's character, of whose four bytes each half of a surrogate pair has two
abbrev pub unit_size : ℕ → ℕ
unit_size u = if is_in_range 0 127 u then 1 else (if is_in_range 0 2047 u then 2 else (if is_in_range 55296 57343 u then 2 else 3))

abbrev pub size_of : List ℕ → ℕ
size_of [] = 0
size_of (u ∷ us) = unit_size u + size_of us

-- of so many units of the text, those behind this one
abbrev pub less_unit : ℕ → List ℕ → ℕ → ℕ
less_unit u us n = if is_half u us then n else n - 1

-- the bytes of the first so many units of the text, its line ends as they stand in the file
abbrev pub bytes_before : List ℕ → ℕ → ℕ
bytes_before [] n = 0
bytes_before (u ∷ us) n = if n == 0 then 0 else unit_size u + bytes_before us (less_unit u us n)

-- what stands behind them
abbrev pub units_behind : List ℕ → ℕ → List ℕ
units_behind [] n = []
units_behind (u ∷ us) n = if n == 0 then u ∷ us else units_behind us (less_unit u us n)

-- the place in a file's bytes of a place in the page's text, before whose units so many bytes stand
abbrev pub byte_place : ℕ → List ℕ → ℕ → ℕ
byte_place skipped us n = skipped + bytes_before us n
