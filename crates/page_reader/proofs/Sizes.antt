-- The bytes of units are those of their characters.
use Rattle.std.proofs.Common.{◌≡◌, ◌∙◌, ℕ, ◌+◌, ◌-◌, ◌/◌, ◌%◌, ◌<◌, ◌≤◌, ◌⊎◌, inl, inr, Bool, true, false, List, [], ◌∷◌, ◌++◌, length, refl, sym, ap, nat_lt, arith, length-append}
use Rattle.std.proofs.lemmas.Bool.Decides.{nat_tests}
use Rattle.std.proofs.lemmas.Str.{encodes-chars, length-encode, scalars-chars}
use Rattle.std.specs.Char.{len_utf8}
use Rattle.std.specs.Char.Escape.{encode_utf16}
use Rattle.std.specs.List.{flat_map}
use Rattle.std.specs.Str.{IsUtf8, chars}
use Rattle.std.proofs.Math.Utf8.{encode, encodes, scalar, scalars}
use Rattle.std.proofs.lemmas.Bool.{and_parts}
use lib.Utf8.{scalar_cases}
use Rattle.js_core.specs.Text.{utf16_of}
use Rattle.page_reader.specs.Text.{size_of, unit_size}

one_byte : (u : ℕ) → u < 128 → unit_size u ≡ 1
one_byte u h = grind (arith, nat_tests)

two_bytes : (u : ℕ) → 128 ≤ u → u < 2048 → unit_size u ≡ 2
two_bytes u l h = grind (arith, nat_tests)

three_bytes : (u : ℕ) → 2048 ≤ u → u < 55296 → unit_size u ≡ 3
three_bytes u l h = grind (arith, nat_tests)

high_bytes : (u : ℕ) → 57344 ≤ u → unit_size u ≡ 3
high_bytes u l = grind (arith, nat_tests)

half : (u : ℕ) → 55296 ≤ u → u < 57344 → unit_size u ≡ 2
half u l h = grind (arith, nat_tests)

pub size_append : (us vs : List ℕ) → size_of (us ++ vs) ≡ size_of us + size_of vs
size_append [] vs = omega arith
size_append (u ∷ us) vs = let more = size_append us vs in omega (arith, more)

one_unit : (c : ℕ) → c < 65536 → size_of (encode_utf16 c) ≡ unit_size c
one_unit c h = let e : nat_lt c 65536 ≡ true = grind (arith, nat_tests) in rw e (omega arith)

two_units : (c : ℕ) → 65536 ≤ c → c < 1114112 → size_of (encode_utf16 c) ≡ 4
two_units c l h =
    let e : nat_lt c 65536 ≡ false = grind (arith, nat_tests) in
    let first = half (55296 + (c - 65536) / 1024) (omega arith) (omega arith) in
    let second = half (56320 + (c - 65536) % 1024) (omega arith) (omega arith) in
    rw e (omega (arith, first, second))

len_one : (c : ℕ) → c < 128 → len_utf8 c ≡ 1
len_one c h = grind (arith, nat_tests)

len_two : (c : ℕ) → 128 ≤ c → c < 2048 → len_utf8 c ≡ 2
len_two c l h = grind (arith, nat_tests)

len_three : (c : ℕ) → 2048 ≤ c → c < 65536 → len_utf8 c ≡ 3
len_three c l h = grind (arith, nat_tests)

len_four : (c : ℕ) → 65536 ≤ c → len_utf8 c ≡ 4
len_four c l = grind (arith, nat_tests)

order : (a b : ℕ) → (a < b) ⊎ (b ≤ a)
order a b = by_case (nat_lt a b) refl
  where
    by_case : (t : Bool) → nat_lt a b ≡ t → (a < b) ⊎ (b ≤ a)
    by_case true e = inl (grind (arith, nat_tests))
    by_case false e = inr (grind (arith, nat_tests))

char_size : (c : ℕ) → scalar c ≡ true → size_of (encode_utf16 c) ≡ len_utf8 c
char_size c e = by_range (scalar_cases c e)
  where
    below : c < 55296 → (c < 128) ⊎ (128 ≤ c) → (c < 2048) ⊎ (2048 ≤ c) → size_of (encode_utf16 c) ≡ len_utf8 c
    below h (inl a) o = one_unit c (omega arith) ∙ one_byte c a ∙ sym (len_one c a)
    below h (inr a) (inl b) = one_unit c (omega arith) ∙ two_bytes c a b ∙ sym (len_two c a b)
    below h (inr a) (inr b) = one_unit c (omega arith) ∙ three_bytes c b h ∙ sym (len_three c b (omega arith))

    above : 57344 ≤ c → c < 1114112 → (c < 65536) ⊎ (65536 ≤ c) → size_of (encode_utf16 c) ≡ len_utf8 c
    above l h (inl a) = one_unit c a ∙ high_bytes c l ∙ sym (len_three c (omega arith) a)
    above l h (inr a) = two_units c a h ∙ sym (len_four c a)

    by_range : (c < 55296) ⊎ ((57344 ≤ c) × (c < 1114112)) → size_of (encode_utf16 c) ≡ len_utf8 c
    by_range (inl h) = below h (order c 128) (order c 2048)
    by_range (inr h) = above h.0 h.1 (order c 65536)

chars_size : (cs : List ℕ) → scalars cs ≡ true → size_of (flat_map encode_utf16 cs) ≡ length (encodes cs)
chars_size [] e = refl
chars_size (c ∷ cs) e =
    let p = and_parts (scalar c) (scalars cs) e in
    let first = char_size c p.0 in
    let more = chars_size cs p.1 in
    size_append (encode_utf16 c) (flat_map encode_utf16 cs) ∙ (let f = length-append (encode c) (encodes cs) in let g = length-encode c in omega (arith, first, more, f, g))

pub bytes_size : (bs : List ℕ) → IsUtf8 bs → size_of (utf16_of bs) ≡ length bs
bytes_size bs u = chars_size (chars bs) (scalars-chars bs u) ∙ ap length (encodes-chars bs u)
