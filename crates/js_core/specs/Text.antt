-- Texts as lists of 16-bit units.
use Rattle.std.specs.Prelude.{ℕ, ◌<◌, List}
use Rattle.std.specs.List.{All, flat_map}
use Rattle.std.specs.Str.{chars}
use Rattle.std.specs.Char.Escape.{encode_utf16}

-- a text as contracts see it
abbrev pub Text : Type 0
Text = List ℕ

-- each is a 16-bit unit
abbrev pub AllUnits : Text → Type 0
AllUnits units = All (λ u. u < 65536) units

-- the UTF-16 units of a text that is given as its UTF-8 bytes
abbrev pub utf16_of : List ℕ → List ℕ
utf16_of bytes = flat_map encode_utf16 (chars bytes)
