-- A worked example of bytes whose scripts' texts are replaced: a byte order mark, a script behind a CR LF, and one without a text.
use Rattle.std.specs.Prelude.{ℕ, List, [], ◌∷◌, ◌++◌, codes}
use Rattle.page_reader.specs.declared.page.Place.{Place}

abbrev around : List ℕ → List ℕ → List ℕ
around first second =
    0xEF ∷ 0xBB ∷ 0xBF ∷ codes "<html>" ++ 0x0D ∷ 0x0A ∷ codes "<script>" ++ first ++ codes "</script>" ++ 0xC3 ∷ 0xA9 ∷ codes "<SCRIPT >" ++ second
    ++ codes "</script ></html>"

abbrev pub page : List ℕ
page = around (0x0D ∷ 0x0A ∷ codes "a") []

abbrev pub places : List Place
places = record { start = 19; end = 22 } ∷ record { start = 42; end = 42 } ∷ []

abbrev pub texts : List (List ℕ)
texts = codes "b" ∷ (0xE2 ∷ 0x82 ∷ 0xAC ∷ 0x0A ∷ []) ∷ []

abbrev pub replaced_page : List ℕ
replaced_page = around (codes "b") (0xE2 ∷ 0x82 ∷ 0xAC ∷ 0x0A ∷ [])
