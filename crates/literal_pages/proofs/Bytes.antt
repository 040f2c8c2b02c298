-- The units of a text that is given as bytes are of 16 bits and no more than the bytes, and so are those of a page's text.
use Rattle.std.proofs.Common.{◌≡◌, ◌∙◌, ℕ, zero, suc, ◌+◌, ◌-◌, ◌*◌, ◌/◌, ◌%◌, ◌<◌, ◌≤◌, ◌==◌, ◌&&◌, Bool, true, false, cond, nat_le, nat_lt, List, [], ◌∷◌, ◌++◌, length, length-append, refl, subst, arith}
use Rattle.std.specs.Char.{encode_utf8}
use Rattle.std.specs.Char.Escape.{encode_utf16}
use Rattle.std.specs.List.{flat_map, list_all}
use Rattle.std.specs.Str.{IsUtf8, all_scalars, chars, chars_after, continuation_len, encode_utf8_all, lead_bits}
use Rattle.std.proofs.lemmas.Bool.{and_from, and_parts, lt-ltb, ltb-true}
use Rattle.std.proofs.lemmas.List.Folds.{list_all-append}
use Rattle.js_core.specs.Text.{utf16_of}
use Rattle.js_lexer.specs.Written.{is_unit}
use Rattle.page_reader.specs.Text.{is_half, page_text, with_line_feeds, without_mark}
use Rattle.literal_values.specs.Values.{longest_name}
use Rattle.literal_pages.proofs.InUnits.{InUnits, are_units, joined_units}
use Rattle.literal_pages.proofs.Parts.{IsPart}

-- ---- characters, which are below what two units can write

low_unit : (u : ℕ) → u < 65536 → is_unit u ≡ true
low_unit u h = lt-ltb u 65536 h

high_unit : (c : ℕ) → c < 10000000 → is_unit (0xD800 + (c - 0x1_0000) / 0x400) ≡ true
high_unit c h = low_unit (0xD800 + (c - 0x1_0000) / 0x400) (omega arith)

last_unit : (c : ℕ) → is_unit (0xDC00 + (c - 0x1_0000) % 0x400) ≡ true
last_unit c = low_unit (0xDC00 + (c - 0x1_0000) % 0x400) (omega arith)

pub character_units : (c : ℕ) → c < 10000000 → InUnits (encode_utf16 c)
character_units c h = by (nat_lt c 0x1_0000) refl
  where
    by : (b : Bool) → nat_lt c 0x1_0000 ≡ b → InUnits (encode_utf16 c)
    by true e = rw e (and_from (is_unit c) true (low_unit c (ltb-true c 0x1_0000 e)) refl)
    by false e = rw e (and_from _ _ (high_unit c h) (and_from _ true (last_unit c) refl))

-- ---- bytes

abbrev pub is_byte : ℕ → Bool
is_byte b = nat_lt b 256

abbrev pub are_bytes : List ℕ → Bool
are_bytes bs = list_all is_byte bs

-- a text that is given by bytes
abbrev pub InBytes : List ℕ → Type 0
InBytes bs = are_bytes bs ≡ true

pub joined_bytes : (bs cs : List ℕ) → InBytes bs → InBytes cs → InBytes (bs ++ cs)
joined_bytes bs cs h k = list_all-append is_byte bs cs ∙ and_from (are_bytes bs) (are_bytes cs) h k

byte : (b : ℕ) → b < 256 → is_byte b ≡ true
byte b h = lt-ltb b 256 h

later_byte : (c : ℕ) → is_byte (128 + c % 64) ≡ true
later_byte c = byte (128 + c % 64) (omega arith)

pub encoded_bytes : (c : ℕ) → c < 1114112 → InBytes (encode_utf8 c)
unfolding encode_utf8
encoded_bytes c h = by (nat_lt c 128) (nat_lt c 2048) (nat_lt c 65536) refl refl refl
  where
    by : (x y z : Bool) → nat_lt c 128 ≡ x → nat_lt c 2048 ≡ y → nat_lt c 65536 ≡ z
        → InBytes (cond x (c ∷ []) (cond y ((192 + c / 64) ∷ (128 + c % 64) ∷ []) (cond z ((224 + c / 4096) ∷ (128 + c / 64 % 64) ∷ (128 + c % 64) ∷ []) ((240 + c / 262144) ∷ (128 + c / 4096 % 64) ∷ (128 + c / 64 % 64) ∷ (128 + c % 64) ∷ []))))
    by true y z e f g = let low = ltb-true c 128 e in and_from _ true (byte c (omega arith)) refl
    by false true z e f g = let low = ltb-true c 2048 f in and_from _ _ (byte (192 + c / 64) (omega arith)) (and_from _ true (later_byte c) refl)
    by false false true e f g =
        let low = ltb-true c 65536 g in
        and_from _ _ (byte (224 + c / 4096) (omega arith)) (and_from _ _ (later_byte (c / 64)) (and_from _ true (later_byte c) refl))
    by false false false e f g =
        and_from _ _ (byte (240 + c / 262144) (omega arith)) (and_from _ _ (later_byte (c / 4096)) (and_from _ _ (later_byte (c / 64)) (and_from _ true (later_byte c) refl)))

scalar_low : (c : ℕ) → all_scalars (c ∷ []) ≡ true → c < 1114112
scalar_low c h = by (nat_lt c 55296) refl (nat_le 57344 c) h
  where
    by : (a : Bool) → nat_lt c 55296 ≡ a → (b : Bool) → (cond a true (b && nat_lt c 1114112) && true) ≡ true → c < 1114112
    by true e b g = let low = ltb-true c 55296 e in omega arith
    by false e b g = ltb-true c 1114112 (and_parts b (nat_lt c 1114112) (and_parts (b && nat_lt c 1114112) true g).0).1

all_encoded : (cs : List ℕ) → all_scalars cs ≡ true → InBytes (encode_utf8_all cs)
all_encoded [] h = refl
all_encoded (c ∷ cs) h =
    let parts = and_parts (cond (nat_lt c 55296) true (nat_le 57344 c && nat_lt c 1114112)) (all_scalars cs) h in
    joined_bytes (encode_utf8 c) (encode_utf8_all cs) (encoded_bytes c (scalar_low c (and_from _ true parts.0 refl))) (all_encoded cs parts.1)

pub utf8_bytes : (bs : List ℕ) → IsUtf8 bs → InBytes bs
utf8_bytes bs h = subst InBytes h.1.1 (all_encoded h.0 h.1.0)

-- ---- the characters of bytes

-- n bytes of a character are still to come, and c is the value of those so far
abbrev IsLow : ℕ → ℕ → Type 0
IsLow zero c = c < 10000000
IsLow (suc zero) c = c < 100000
IsLow (suc (suc zero)) c = c < 1100
IsLow (suc (suc (suc zero))) c = c < 16
IsLow (suc (suc (suc (suc n)))) c = ⊥

begins_low : (b : ℕ) → b < 256 → IsLow (continuation_len b) (lead_bits b)
begins_low b h = by (nat_lt b 128) (nat_lt b 224) (nat_lt b 240) refl refl refl
  where
    by : (x y z : Bool) → nat_lt b 128 ≡ x → nat_lt b 224 ≡ y → nat_lt b 240 ≡ z
        → IsLow (cond x 0 (cond y 1 (cond z 2 3))) (cond x b (cond y (b - 192) (cond z (b - 224) (b - 240))))
    by true y z e f g = omega arith
    by false true z e f g = omega arith
    by false false true e f g = omega arith
    by false false false e f g = omega arith

goes_on_low : (n c b : ℕ) → b < 256 → IsLow (suc n) c → IsLow n (c * 64 + (b - 128))
goes_on_low zero c b h low = omega arith
goes_on_low (suc zero) c b h low = omega arith
goes_on_low (suc (suc zero)) c b h low = omega arith
goes_on_low (suc (suc (suc n))) c b h low = absurd low

units_after : (n c : ℕ) (bs : List ℕ) → IsLow n c → InBytes bs → InUnits (flat_map encode_utf16 (chars_after n c bs))
units_after zero c [] low h = joined_units (encode_utf16 c) [] (character_units c low) refl
units_after zero c (b ∷ bs) low h =
    let parts = and_parts (is_byte b) (are_bytes bs) h in
    joined_units (encode_utf16 c) _ (character_units c low) (units_after (continuation_len b) (lead_bits b) bs (begins_low b (ltb-true b 256 parts.0)) parts.1)
units_after (suc n) c [] low h = refl
units_after (suc n) c (b ∷ bs) low h =
    let parts = and_parts (is_byte b) (are_bytes bs) h in
    units_after n (c * 64 + (b - 128)) bs (goes_on_low n c b (ltb-true b 256 parts.0) low) parts.1

pub text_units : (bs : List ℕ) → InBytes bs → InUnits (utf16_of bs)
unfolding chars
text_units [] h = refl
text_units (b ∷ bs) h =
    let parts = and_parts (is_byte b) (are_bytes bs) h in
    units_after (continuation_len b) (lead_bits b) bs (begins_low b (ltb-true b 256 parts.0)) parts.1

-- ---- how many units a text has

pub two_units : (c : ℕ) → length (encode_utf16 c) ≤ 2
two_units c = by (nat_lt c 0x1_0000) refl
  where
    by : (b : Bool) → nat_lt c 0x1_0000 ≡ b → length (encode_utf16 c) ≤ 2
    by true e = rw e (omega arith)
    by false e = rw e (omega arith)

one_unit : (c : ℕ) → c < 65536 → length (encode_utf16 c) ≤ 1
one_unit c h = let e : nat_lt c 0x1_0000 ≡ true = lt-ltb c 65536 h in rw e (omega arith)

-- of a character n bytes are to come, and w were there
abbrev IsEnough : ℕ → ℕ → ℕ → Type 0
IsEnough zero c w = length (encode_utf16 c) ≤ w
IsEnough (suc n) c w = 1 ≤ w

begins_enough : (b : ℕ) → IsEnough (continuation_len b) (lead_bits b) 1
begins_enough b = by (nat_lt b 128) (nat_lt b 224) (nat_lt b 240) refl
  where
    by : (x y z : Bool) → nat_lt b 128 ≡ x → IsEnough (cond x 0 (cond y 1 (cond z 2 3))) (cond x b (cond y (b - 192) (cond z (b - 224) (b - 240)))) 1
    by true y z e = let low = ltb-true b 128 e in one_unit b (omega arith)
    by false true z e = omega arith
    by false false true e = omega arith
    by false false false e = omega arith

goes_on_enough : (n c b w : ℕ) → IsEnough (suc n) c w → IsEnough n (c * 64 + (b - 128)) (suc w)
goes_on_enough zero c b w h = let l = two_units (c * 64 + (b - 128)) in omega arith
goes_on_enough (suc n) c b w h = omega arith

joined_count : (us vs : List ℕ) (m n : ℕ) → length us ≤ m → length vs ≤ n → length (us ++ vs) ≤ m + n
joined_count us vs m n h k = let l = length-append us vs in omega arith

one_more : (a n : ℕ) → a ≤ 1 + n → a ≤ suc n
one_more a n l = omega arith

count_after : (n c w : ℕ) (bs : List ℕ) → IsEnough n c w → length (flat_map encode_utf16 (chars_after n c bs)) ≤ w + length bs
count_after zero c w [] h = joined_count (encode_utf16 c) [] w 0 h (omega arith)
count_after zero c w (b ∷ bs) h =
    joined_count (encode_utf16 c) _ w (suc (length bs)) h (one_more _ _ (count_after (continuation_len b) (lead_bits b) 1 bs (begins_enough b)))
count_after (suc n) c w [] h = omega arith
count_after (suc n) c w (b ∷ bs) h = let l = count_after n (c * 64 + (b - 128)) (suc w) bs (goes_on_enough n c b w h) in omega arith

pub text_count : (bs : List ℕ) → length (utf16_of bs) ≤ length bs
unfolding chars
text_count [] = omega arith
text_count (b ∷ bs) = one_more _ _ (count_after (continuation_len b) (lead_bits b) 1 bs (begins_enough b))

-- ---- the text of a page

line_feed_units : (us : List ℕ) → InUnits us → InUnits (with_line_feeds us)
line_feed_units [] h = refl
line_feed_units (u ∷ us) h =
    let parts = and_parts (is_unit u) (are_units us) h in
    by (is_half u us) (u == 13) parts.0 (line_feed_units us parts.1)
  where
    by : (a b : Bool) → is_unit u ≡ true → InUnits (with_line_feeds us) → InUnits (cond a (with_line_feeds us) (cond b 10 u ∷ with_line_feeds us))
    by true b here later = later
    by false true here later = later
    by false false here later = and_from (is_unit u) (are_units (with_line_feeds us)) here later

unmarked_units : (us : List ℕ) → InUnits us → InUnits (without_mark us)
unmarked_units [] h = refl
unmarked_units (u ∷ us) h = by (u == 65279)
  where
    by : (b : Bool) → InUnits (cond b us (u ∷ us))
    by true = (and_parts (is_unit u) (are_units us) h).1
    by false = h

line_feed_count : (us : List ℕ) → length (with_line_feeds us) ≤ length us
line_feed_count [] = omega arith
line_feed_count (u ∷ us) = by (is_half u us) (u == 13) (line_feed_count us)
  where
    by : (a b : Bool) → length (with_line_feeds us) ≤ length us → length (cond a (with_line_feeds us) (cond b 10 u ∷ with_line_feeds us)) ≤ suc (length us)
    by true b l = omega arith
    by false b l = omega arith

unmarked_count : (us : List ℕ) → length (without_mark us) ≤ length us
unmarked_count [] = omega arith
unmarked_count (u ∷ us) = by (u == 65279)
  where
    by : (b : Bool) → length (cond b us (u ∷ us)) ≤ suc (length us)
    by true = omega arith
    by false = omega arith

pub page_part : (bytes : List ℕ) → IsUtf8 bytes → length bytes ≤ longest_name → IsPart (page_text (utf16_of bytes))
page_part bytes h short =
    let a = text_count bytes in
    let b = unmarked_count (utf16_of bytes) in
    let c = line_feed_count (without_mark (utf16_of bytes)) in
    record {
      units = line_feed_units (without_mark (utf16_of bytes)) (unmarked_units (utf16_of bytes) (text_units bytes (utf8_bytes bytes h)));
      short = omega arith;
    }
