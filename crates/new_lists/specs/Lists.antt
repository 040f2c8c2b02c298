-- Arrays that are made.
use Rattle.std.specs.Prelude.{ℤ, pos, nat_lt, Bool, false, List, [], ◌∷◌, Option, Some, None}
use Rattle.js_values.specs.declared.ids.ObjId.{ObjId}
use Rattle.js_values.specs.declared.value.Value.{Value}
use Rattle.js_values.specs.declared.value.Value.TheVariants.{Num, Object}

-- an end that the object stands for
abbrev pub for_object : ObjId → Unit {0} → Value
for_object at u = Object at

-- a number that may be an array's length
abbrev pub is_a_length : Option ℤ → Bool
is_a_length (Some (pos n)) = nat_lt n 4294967296
is_a_length n = false

-- a number that is the only value
abbrev pub lone_number : List Value → Option (Option ℤ)
lone_number (Num n ∷ []) = Some n
lone_number vs = None
