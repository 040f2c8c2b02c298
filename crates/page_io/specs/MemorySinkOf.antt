-- A sink in memory, as contracts see it, and what each put into it answers.
use Rattle.std.specs.Prelude.{ℕ, ◌-◌, ◌==◌, Bool, ◌||◌, nat_lt, min, List, ◌++◌, length, take, find, Option, is_some, Result, Ok, Err, if◌then◌else◌}
use Rattle.std.specs.Option.{option_map, option_map_or}
use Rattle.page_io.specs.Faults.{counted}
use Rattle.page_io.specs.declared.sink.PutFault.{PutFault}
use Rattle.page_io.specs.declared.sink.PutFault.TheVariants.{Failed}

-- the bytes taken; for how many there is room in all; the calls that fail, each with how many bytes it
-- takes; how many calls there were, and how many of them failed
pub record MemorySinkOf : Type 0 where
  pub bytes : List ℕ
  pub room : ℕ
  pub failing : List (ℕ × ℕ)
  pub calls : ℕ
  pub faults : ℕ

-- how many bytes a call takes at most, if it is to fail: the first pair of its number counts
abbrev pub listed : List (ℕ × ℕ) → ℕ → Option ℕ
listed failing call = option_map (λ p. p.1) (find (λ p. p.0 == call) failing)

-- how many bytes of a piece there is room for
abbrev pub fitting : MemorySinkOf → List ℕ → ℕ
fitting s piece = min (s.room - length s.bytes) (length piece)

-- how many bytes of the piece the next put takes
abbrev pub takes : MemorySinkOf → List ℕ → ℕ
takes s piece = option_map_or (min (fitting s piece)) (listed s.failing (counted s.calls)) (fitting s piece)

-- whether the next put fails: it is listed, or the room left is smaller than the piece
abbrev pub fails : MemorySinkOf → List ℕ → Bool
fails s piece = is_some (listed s.failing (counted s.calls)) || nat_lt (s.room - length s.bytes) (length piece)

-- what the next put answers
abbrev pub put_answer : MemorySinkOf → List ℕ → Result (Unit {0}) PutFault
put_answer s piece = if fails s piece then Err Failed else Ok tt

-- the sink after the next put
abbrev pub after_put : MemorySinkOf → List ℕ → MemorySinkOf
after_put s piece = record s {
  bytes = s.bytes ++ take (takes s piece) piece;
  calls = counted s.calls;
  faults = if fails s piece then counted s.faults else s.faults;
}
