-- The of items, and their keys.
use Rattle.std.specs.Prelude.{ℕ, Bool, true, false, List, [], ◌∷◌, codes, Option, Some, None, is_some, bytes_eq, if◌then◌else◌}
use Rattle.std.specs.List.{list_any, list_all}
use Rattle.serde_json.specs.Data.{Data, object, Members, no_members, member}
use Rattle.serde_json.specs.Find.{get}
use Rattle.event_file.specs.declared.kind.Kind.{Kind}
use Rattle.event_file.specs.declared.kind.Kind.TheVariants.{Fire, Input, Tick, Call, Dom}

-- the keys that an item of a kind may have
abbrev pub keys_of : Kind → List (List ℕ)
keys_of Fire = codes "fire" ∷ codes "at" ∷ codes "bubbles" ∷ codes "cancelable" ∷ []
keys_of Input = codes "input" ∷ codes "at" ∷ []
keys_of Tick = codes "tick" ∷ []
keys_of Call = codes "call" ∷ []
keys_of Dom = codes "dom" ∷ []

-- one of those keys
abbrev pub is_key_of : Kind → List ℕ → Bool
is_key_of kind key = list_any (bytes_eq key) (keys_of kind)

-- the keys of an object
abbrev pub keys : Members → List (List ℕ)
keys no_members = []
keys (member key d ms) = key ∷ keys ms

-- an object with no other keys than those of a kind
abbrev pub has_only_keys_of : Kind → Data → Bool
has_only_keys_of kind (object ms) = list_all (is_key_of kind) (keys ms)
has_only_keys_of kind d = false

-- a value at the key
abbrev pub has_key : List ℕ → Data → Bool
has_key key d = is_some (get key d)

-- the kind of an item, by the key that no other kind has
abbrev pub kind_of : Data → Option Kind
kind_of d =
    if has_key (codes "fire") d then Some Fire
    else (if has_key (codes "input") d then Some Input
    else (if has_key (codes "tick") d then Some Tick
    else (if has_key (codes "call") d then Some Call
    else (if has_key (codes "dom") d then Some Dom
    else None))))
