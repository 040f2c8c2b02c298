-- What a read says of contents that may be told or not.
use Rattle.std.specs.Prelude.{◌≡◌, ℕ, ◌<◌, ◌≤◌, List, length, Option, Some, None, Result, Err}
use Rattle.page_io.specs.declared.files.ReadFault.{ReadFault}
use Rattle.page_io.specs.declared.files.ReadFault.TheVariants.{Failed, TooLong}

-- what a name holds: nothing where it is not told, else no content or these bytes
abbrev pub Told : Type 0
Told = Option (Option (List ℕ))

-- the bytes are the whole content, where it is told, and at most `limit` many
abbrev pub IsContent : Told → ℕ → List ℕ → Type 0
IsContent None limit bytes = length bytes ≤ limit
IsContent (Some None) limit bytes = ⊥
IsContent (Some (Some content)) limit bytes = (bytes ≡ content) × (length bytes ≤ limit)

-- a fault that the content allows: it is too long where it has more than `limit` bytes
abbrev pub Allows : Told → ℕ → ReadFault → Type 0
Allows (Some None) limit TooLong = ⊥
Allows (Some (Some content)) limit TooLong = limit < length content
Allows _ _ _ = Unit {0}

-- the name of the last read that failed is this one's after a failure, and stays otherwise
pub record KeepsFailed {T : Type 0} (old new : Option (List ℕ)) (name : List ℕ) (result : Result T ReadFault) : Type 0 where
  pub named : result ≡ Err Failed → new ≡ Some name
  pub stayed : (result ≡ Err Failed → ⊥) → new ≡ old
