-- The operators on bits (ECMA-262 5.1 sections 9.5, 9.6, 11.4.8, 11.7 and 11.10).
use Rattle.std.specs.Prelude.{ℕ, ℤ, pos, ◌-◌, ◌*◌, ◌/◌, ◌%◌, ◌^◌, ◌-ℤ◌, nat_lt, bit_and, bit_or, bit_xor, unsigned_abs, Option, Some, None, if◌then◌else◌}
use Rattle.std.specs.Int.{int_rem_euclid, int_shr}
use Rattle.whole_ops.specs.declared.bit_ops.BitOp.{BitOp}
use Rattle.whole_ops.specs.declared.bit_ops.BitOp.TheVariants.{And, Or, Xor, Shl, Shr, Ushr}

-- ToUint32: the number modulo 2^32, and 0 for NaN
abbrev pub to_uint32 : Option ℤ → ℕ
to_uint32 None = 0
to_uint32 (Some z) = unsigned_abs (int_rem_euclid z (pos (2 ^ 32)))

-- 32 bits as a number from -2^31 to 2^31 - 1
abbrev pub signed_of : ℕ → ℤ
signed_of m = if nat_lt m (2 ^ 31) then pos m else (pos m -ℤ pos (2 ^ 32))

-- ToInt32
abbrev pub to_int32 : Option ℤ → ℤ
to_int32 n = signed_of (to_uint32 n)

-- the last five bits of the right side of a shift
abbrev pub shift_count : Option ℤ → ℕ
shift_count n = to_uint32 n % 32

abbrev pub whole_bits : BitOp → Option ℤ → Option ℤ → Option ℤ
whole_bits And a b = Some (signed_of (bit_and (to_uint32 a) (to_uint32 b)))
whole_bits Or a b = Some (signed_of (bit_or (to_uint32 a) (to_uint32 b)))
whole_bits Xor a b = Some (signed_of (bit_xor (to_uint32 a) (to_uint32 b)))
whole_bits Shl a b = Some (signed_of (to_uint32 a * 2 ^ shift_count b % 2 ^ 32))
whole_bits Shr a b = Some (int_shr (to_int32 a) (shift_count b))
whole_bits Ushr a b = Some (pos (to_uint32 a / 2 ^ shift_count b))

abbrev pub whole_not : Option ℤ → Option ℤ
whole_not a = Some (signed_of (2 ^ 32 - 1 - to_uint32 a))
