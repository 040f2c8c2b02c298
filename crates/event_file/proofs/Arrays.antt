-- The events that bytes hold, from what was read.
use Rattle.std.proofs.Common.{◌≡◌, ℕ, List, Bool, true, false, Some, None, Err, refl}
use Rattle.std.specs.Str.{IsUtf8, is_utf8}
use Rattle.std.proofs.lemmas.Str.{IsUtf8-from_is_utf8, is_utf8-from_IsUtf8}
use Rattle.serde_json.specs.Data.{Data, Items}
use Rattle.serde_json.specs.Find.{as_array}
use Rattle.serde_json.specs.Read.{read}
use Rattle.event_file.specs.Events.{events_of, events_from}

-- bytes that are no JSON hold none
pub not_json : (bytes : List ℕ) → (IsUtf8 bytes → read bytes ≡ None) → events_of bytes ≡ Err 0
not_json bytes off = by_case (is_utf8 bytes) refl
  where
    by_case : (b : Bool) → is_utf8 bytes ≡ b → events_of bytes ≡ Err 0
    by_case true e = rw (e, off (IsUtf8-from_is_utf8 bytes e)) refl
    by_case false e = rw e refl

-- an array holds those of its items
pub of_array : (bytes : List ℕ) (d : Data) (ds : Items) → IsUtf8 bytes → read bytes ≡ Some d → Some ds ≡ as_array d → events_of bytes ≡ events_from 1 ds
of_array bytes d ds text is at = rw (is_utf8-from_IsUtf8 bytes text, is, ← at) refl
