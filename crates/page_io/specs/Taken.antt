-- What a put says of bytes that may be told or not.
use Rattle.std.specs.Prelude.{◌≡◌, ℕ, List, ◌++◌, take, Option, Some, None}

-- the piece was appended, where the bytes are told; whether they are told stays
abbrev pub Takes : Option (List ℕ) → Option (List ℕ) → List ℕ → Type 0
Takes (Some old) (Some new) piece = new ≡ old ++ piece
Takes None None piece = Unit {0}
Takes _ _ piece = ⊥

-- some front of the piece was appended, where the bytes are told; whether they are told stays
abbrev pub TakesFront : Option (List ℕ) → Option (List ℕ) → List ℕ → Type 0
TakesFront (Some old) (Some new) piece = (n : ℕ) × (new ≡ old ++ take n piece)
TakesFront None None piece = Unit {0}
TakesFront _ _ piece = ⊥
