-- Array indices: the decimal texts of the numbers from 0 to 2^32 - 2 (ECMA-262 5.1 section 15.4).
use Rattle.std.specs.Prelude.{ℕ, ◌+◌, ◌*◌, ◌-◌, Bool, true, false, List, [], ◌∷◌, Option, Some, None, ◌&&◌, not, nat_le, nat_lt, nat_eq, fold, if◌then◌else◌}
use Rattle.std.specs.List.{list_all}

abbrev pub is_digit : ℕ → Bool
is_digit unit = nat_le 48 unit && nat_le unit 57

-- there is a digit, and no zero before another one
abbrev pub begins_well : List ℕ → Bool
begins_well [] = false
begins_well (unit ∷ []) = true
begins_well (unit ∷ next ∷ rest) = not (nat_eq unit 48)

-- it is what a number is written as, in decimal
abbrev pub is_decimal : List ℕ → Bool
is_decimal name = begins_well name && list_all is_digit name

-- the number, with one more digit
abbrev pub with_digit : ℕ → ℕ → ℕ
with_digit n unit = n * 10 + (unit - 48)

-- the number that the digits write
abbrev pub number_of : List ℕ → ℕ
number_of name = fold with_digit 0 name

-- 2^32 - 1, which is no array index
abbrev pub index_end : ℕ
index_end = 4294967295

-- the array index of the name, where it is one
abbrev pub index_of : List ℕ → Option ℕ
index_of name = if is_decimal name && nat_lt (number_of name) index_end then Some (number_of name) else None
