-- Files in memory, as contracts see them, and what each read of them answers.
use Rattle.std.specs.Prelude.{◌≡◌, ℕ, ◌==◌, nat_lt, List, [], ◌∷◌, length, map, Option, Some, None, Result, Ok, Err, if◌then◌else◌, bytes_eq, Vec, String}
use Rattle.std.specs.Global.{Global}
use Rattle.std.specs.List.{list_any}
use Rattle.std.specs.String.{string_bytes}
use Rattle.page_io.specs.Faults.{counted}
use Rattle.page_io.specs.declared.files.ReadFault.{ReadFault}
use Rattle.page_io.specs.declared.files.ReadFault.TheVariants.{Failed, TooLong, OutOfMemory}

-- the files, each a name with its content; the numbers of the calls that fail; how many calls there were,
-- and how many of them failed; and the name of the last one that did
pub record MemoryFilesOf : Type 0 where
  pub files : List (List ℕ × List ℕ)
  pub failing : List ℕ
  pub calls : ℕ
  pub faults : ℕ
  pub failed : Option (List ℕ)

-- names and contents as bytes
abbrev pub named : List (String Global × Vec ℕ Global) → List (List ℕ × List ℕ)
named files = map (λ f. (string_bytes f.0, f.1.items)) files

-- the content of the first file of this name
abbrev pub content_of : List (List ℕ × List ℕ) → List ℕ → Option (List ℕ)
content_of [] name = None
content_of (f ∷ fs) name = if bytes_eq f.0 name then Some f.1 else content_of fs name

-- the content, unless there is none or it is too long
abbrev pub whole : Option (List ℕ) → ℕ → Result (List ℕ) ReadFault
whole None limit = Err Failed
whole (Some content) limit = if nat_lt limit (length content) then Err TooLong else Ok content

-- what the next read answers, unless memory runs out
abbrev pub answer_of : MemoryFilesOf → List ℕ → ℕ → Result (List ℕ) ReadFault
answer_of m name limit = if list_any (λ n. n == counted m.calls) m.failing then Err Failed else whole (content_of m.files name) limit

-- the answer is this one, unless memory ran out
abbrev pub Answers : Result (List ℕ) ReadFault → Result (Vec ℕ Global) ReadFault → Type 0
Answers wanted (Ok bytes) = wanted ≡ Ok bytes.items
Answers wanted (Err OutOfMemory) = Unit {0}
Answers wanted (Err fault) = wanted ≡ Err fault

-- the files after a read with this result: the call is counted, and a failure too, with its name
abbrev pub after_read : MemoryFilesOf → List ℕ → Result (Vec ℕ Global) ReadFault → MemoryFilesOf
after_read m name (Err Failed) = record m { calls = counted m.calls; faults = counted m.faults; failed = Some name }
after_read m name _ = record m { calls = counted m.calls }
