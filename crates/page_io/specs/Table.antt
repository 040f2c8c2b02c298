-- A keeper's rows: a finite map from names and versions to bytes.
use Rattle.std.specs.Prelude.{ℕ, List, length}
use Rattle.std.specs.Ordering.{nat_cmp, ordering_then}
use Rattle.std.specs.Cmp.Lexicographic.{slice_cmp}
use Rattle.std.specs.declared.cmp.Ordering.{Ordering}
use Rattle.std.specs.FinMap.{FinMap}
use Rattle.js_core.specs.Text.{utf16_of}
use Rattle.page_io.specs.declared.keeper.KeptName.{KeptName}

-- a name's bytes, and a version
abbrev pub Key : Type 0
Key = List ℕ × ℕ

-- by the bytes of the name, then by the version
abbrev pub key_cmp : Key → Key → Ordering
key_cmp k l = ordering_then (slice_cmp nat_cmp k.0 l.0) (nat_cmp k.1 l.1)

-- the rows, in this order
abbrev pub Table : Type 0
Table = FinMap key_cmp (List ℕ)

-- what a list of names says of a row
abbrev pub kept_name : Key × List ℕ → KeptName
kept_name row = record { name = utf16_of row.0.0; version = row.0.1; size = length row.1 }
