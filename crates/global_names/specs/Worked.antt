-- Worked examples of names.
use Rattle.std.specs.Prelude.{ℕ, List, [], ◌∷◌, ◌++◌, codes}

abbrev pub names : List (List ℕ)
names =
    codes "window" ∷ codes "document" ∷ codes "console" ∷ codes "alert" ∷ codes "setTimeout" ∷ codes "setInterval"
    ∷ codes "setIntervalFrom" ∷ codes "clearTimeout" ∷ codes "clearInterval" ∷ codes "Object" ∷ codes "Function" ∷ codes "Array"
    ∷ codes "String" ∷ codes "Number" ∷ codes "Boolean" ∷ codes "Math" ∷ codes "Error" ∷ codes "TypeError" ∷ codes "RangeError"
    ∷ codes "ReferenceError" ∷ codes "Node" ∷ codes "Event" ∷ codes "isNaN" ∷ codes "isFinite" ∷ codes "parseInt"
    ∷ codes "undefined" ∷ codes "NaN" ∷ []

-- the last ones have letters of which eight bits are those of a global name's
abbrev pub other_names : List (List ℕ)
other_names =
    [] ∷ codes "Window" ∷ codes "windo" ∷ codes "windows" ∷ codes "nan" ∷ codes "Nan" ∷ codes "NaN1" ∷ codes "Infinity"
    ∷ codes "undefine" ∷ codes "eval" ∷ codes "parseFloat" ∷ codes "this" ∷ codes "null" ∷ codes "Date" ∷ codes "setinterval"
    ∷ codes "setIntervalFro" ∷ codes "setIntervalFroms" ∷ codes "ReferenceErrors" ∷ codes "SyntaxError" ∷ (0x144 ∷ codes "ode")
    ∷ (codes "w" ++ 0x131 ∷ codes "ndow") ∷ (0x14E ∷ 0x161 ∷ 0x14E ∷ []) ∷ []
