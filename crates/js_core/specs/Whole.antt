-- The numbers of the language: whole numbers in a range, and NaN.
use Rattle.std.specs.Prelude.{ℕ, ℤ, pos, neg_ℤ, nat_abs, ◌≤ℤ◌, Bool, nat_le, Option, Some, None, if◌then◌else◌}

-- 2^53 - 1, the largest of them
abbrev pub largest : ℕ
largest = 9007199254740991

-- at least -(2^53 - 1) and at most 2^53 - 1
abbrev pub InRange : ℤ → Type 0
InRange z = (neg_ℤ (pos largest) ≤ℤ z) × (z ≤ℤ pos largest)

-- the test of that
abbrev pub is_whole : ℤ → Bool
is_whole z = nat_le (nat_abs z) largest

-- contracts see a number as `Some` of it, and NaN as `None`
abbrev pub nan : Option ℤ
nan = None

-- the number z, where it is in range
abbrev pub whole_of : ℤ → Option (Option ℤ)
whole_of z = if is_whole z then Some (Some z) else None
