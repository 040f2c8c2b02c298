-- What reading and writing in a loop does to bytes that a reader or a writer may tell.
use Rattle.std.specs.Prelude.{◌≡◌, ℕ, ◌≤◌, List, length, take, Option, IfSome}
use Rattle.std.specs.Io.KnownBytes.{Appends}

-- all the bytes that were left to read, where they are known, and at most `limit` many
pub record IsAllLeft (left : Option (List ℕ)) (limit : ℕ) (bytes : List ℕ) : Type 0 where
  pub all : IfSome left (λ known. bytes ≡ known)
  pub within : length bytes ≤ limit

-- some front of the piece was appended to the known bytes
abbrev pub AppendsFront : Option (List ℕ) → Option (List ℕ) → List ℕ → Type 0
AppendsFront old new piece = (n : ℕ) × Appends old new (take n piece)
