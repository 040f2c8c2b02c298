-- The names of the global object's built-in properties.
use Rattle.std.specs.Prelude.{ℕ, Bool, List, [], ◌∷◌, codes, bytes_eq}
use Rattle.std.specs.List.{list_any, Contains}

unfoldable pub global_names : List (List ℕ)
global_names =
    codes "window" ∷ codes "document" ∷ codes "console" ∷ codes "alert"
    ∷ codes "setTimeout" ∷ codes "setInterval" ∷ codes "setIntervalFrom" ∷ codes "clearTimeout" ∷ codes "clearInterval"
    ∷ codes "Object" ∷ codes "Function" ∷ codes "Array" ∷ codes "String" ∷ codes "Number" ∷ codes "Boolean" ∷ codes "Math"
    ∷ codes "Error" ∷ codes "TypeError" ∷ codes "RangeError" ∷ codes "ReferenceError" ∷ codes "Node" ∷ codes "Event"
    ∷ codes "isNaN" ∷ codes "isFinite" ∷ codes "parseInt" ∷ codes "undefined" ∷ codes "NaN" ∷ []

-- the name is one of them
abbrev pub IsGlobalName : List ℕ → Type 0
IsGlobalName name = Contains global_names name

-- the test of that
abbrev pub names_global : List ℕ → Bool
names_global name = list_any (bytes_eq name) global_names
