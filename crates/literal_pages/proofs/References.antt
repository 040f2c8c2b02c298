-- What a text with character references stands for is of 16-bit units, and no longer than the text.
use Rattle.std.proofs.Common.{◌≡◌, ℕ, suc, ◌+◌, ◌<◌, ◌≤◌, ◌==◌, Bool, true, false, cond, List, [], ◌∷◌, drop, length, length-append, Option, Some, None, refl, subst, arith}
use Rattle.std.specs.Prelude.{bytes_eq, codes}
use Rattle.std.specs.Char.{is_digit}
use Rattle.std.specs.Char.Escape.{encode_utf16}
use Rattle.std.specs.List.{prefix_len}
use Rattle.std.specs.Str.Parse.{digits_value}
use Rattle.std.proofs.lemmas.Bool.{and_from, and_parts}
use Rattle.std.proofs.lemmas.Bool.Decides.{nat_tests}
use Rattle.js_lexer.specs.Written.{is_unit}
use Rattle.page_tokens.specs.Characters.{behind, begins_with, is_letter_or_digit, run_of}
use Rattle.page_tokens.specs.References.{Decodes, Piece, character_named, character_numbered, character_of, has_reference, is_semicolon, named, number_of, numbered, numeric_of, piece_of, reference_of}
use Rattle.page_tokens.specs.References.Decodes.{nothing, more}
use Rattle.literal_pages.proofs.Bytes.{character_units, two_units}
use Rattle.literal_pages.proofs.InUnits.{InUnits, are_units, dropped_units, joined_units}
use Rattle.literal_pages.proofs.Parts.{IsPart, dropped_count, halves, shorter_part}

-- what a piece stands for, and what stands behind it, which have no more than so many units
abbrev IsPiece : ℕ → Piece → Type 0
IsPiece n None = Unit {0}
IsPiece n (Some (units, rest)) = InUnits units × InUnits rest × (length units + length rest ≤ n)

either : (n : ℕ) (b : Bool) (p q : Piece) → (b ≡ true → IsPiece n p) → IsPiece n q → IsPiece n (cond b p q)
either n true p q f g = f refl
either n false p q f g = g

numbered_low : (n : ℕ) → has_reference n ≡ true → n < 10000000
numbered_low n h = grind (arith, nat_tests)

named_low : (name : List ℕ) (c : ℕ) → character_named name ≡ Some c → c < 10000000
unfolding character_named
named_low name c h =
    pick (bytes_eq name (codes "amp")) 38 _ (omega arith)
    (pick (bytes_eq name (codes "lt")) 60 _ (omega arith)
    (pick (bytes_eq name (codes "gt")) 62 _ (omega arith)
    (pick (bytes_eq name (codes "quot")) 34 _ (omega arith)
    (pick (bytes_eq name (codes "apos")) 39 _ (omega arith)
    (pick (bytes_eq name (codes "nbsp")) 160 None (omega arith) (λ d e. absurd (cc)))))))
    c h
  where
    pick : (b : Bool) (k : ℕ) (o : Option ℕ) → k < 10000000 → ((c : ℕ) → o ≡ Some c → c < 10000000) → (c : ℕ) → cond b (Some k) o ≡ Some c → c < 10000000
    pick true k o le f c e = let same : k ≡ c = cc in subst (λ d. d < 10000000) same le
    pick false k o le f c e = f c e

-- a character behind a reference of two units or more
character_piece : (n c : ℕ) (us : List ℕ) → c < 10000000 → InUnits us → 2 + length us ≤ n → IsPiece n (Some (encode_utf16 c, us))
character_piece n c us low w h = let l = two_units c in (character_units c low, w, omega arith)

-- the `&` alone
alone_piece : (n : ℕ) (us : List ℕ) → InUnits us → suc (length us) ≤ n → IsPiece n (Some (38 ∷ [], us))
alone_piece n us w h = (refl, w, omega arith)

numbered_piece : (n radix : ℕ) (ds us : List ℕ) → InUnits us → suc (length ds + length us) ≤ n → IsPiece n (numbered radix ds us)
numbered_piece n radix [] us w h = tt
numbered_piece n radix (d ∷ ds) us w h =
    let c = digits_value radix (d ∷ ds) in
    let l = dropped_count 1 us in
    either n (begins_with is_semicolon us) (character_numbered c (drop 1 us)) None
    (λ e. either n (has_reference c) (Some (encode_utf16 c, drop 1 us)) None (λ r. character_piece n c (drop 1 us) (numbered_low c r) (dropped_units 1 us w) (omega arith)) tt) tt

number_piece : (n radix : ℕ) (us : List ℕ) → InUnits us → suc (length us) ≤ n → IsPiece n (number_of radix us)
number_piece n radix us w h =
    let class : ℕ → Bool = λ u. is_digit u radix in
    let l = halves (prefix_len class us) us in
    numbered_piece n radix (run_of class us) (behind class us) (dropped_units (prefix_len class us) us w) (omega arith)

numeric_piece : (n : ℕ) (us : List ℕ) → InUnits us → suc (length us) ≤ n → IsPiece n (numeric_of us)
unfolding numeric_of
numeric_piece n [] w h = tt
numeric_piece n (u ∷ us) w h =
    either n (u == 120) (number_of 16 us) (number_of 10 (u ∷ us)) (λ e. number_piece n 16 us (and_parts (is_unit u) (are_units us) w).1 (omega arith))
    (number_piece n 10 (u ∷ us) w h)

character_of_piece : (n : ℕ) (o : Option ℕ) (us : List ℕ) → ((c : ℕ) → o ≡ Some c → c < 10000000) → InUnits us → 2 + length us ≤ n → IsPiece n (character_of o us)
character_of_piece n None us f w h = tt
character_of_piece n (Some c) us f w h = character_piece n c us (f c refl) w h

named_piece : (n : ℕ) (all ns us : List ℕ) → InUnits all → InUnits us → suc (length all) ≤ n → suc (length ns + length us) ≤ n → IsPiece n (named all ns us)
named_piece n all [] us w v h k = alone_piece n all w h
named_piece n all (m ∷ ns) us w v h k =
    let l = dropped_count 1 us in
    either n (begins_with is_semicolon us) (character_of (character_named (m ∷ ns)) (drop 1 us)) (Some (38 ∷ [], all))
    (λ e. character_of_piece n (character_named (m ∷ ns)) (drop 1 us) (named_low (m ∷ ns)) (dropped_units 1 us v) (omega arith)) (alone_piece n all w h)

reference_piece : (n : ℕ) (us : List ℕ) → InUnits us → suc (length us) ≤ n → IsPiece n (reference_of us)
unfolding reference_of
reference_piece n us w h =
    let size : ℕ = prefix_len is_letter_or_digit us in
    let run = run_of is_letter_or_digit us in
    let rest = behind is_letter_or_digit us in
    let l = dropped_count 1 us in
    let m = halves size us in
    either n (begins_with (λ u. u == 35) us) (numeric_of (drop 1 us)) (named us run rest) (λ e. numeric_piece n (drop 1 us) (dropped_units 1 us w) (omega arith))
    (named_piece n us run rest w (dropped_units size us w) h (omega arith))

piece_is : (us : List ℕ) → InUnits us → IsPiece (length us) (piece_of us)
unfolding piece_of
piece_is [] w = tt
piece_is (u ∷ us) w =
    let parts = and_parts (is_unit u) (are_units us) w in
    either (suc (length us)) (u == 38) (reference_of us) (Some (u ∷ [], us)) (λ e. reference_piece (suc (length us)) us parts.1 (omega arith))
    (and_from (is_unit u) true parts.0 refl, parts.1, omega arith)

decoded : {us value : List ℕ} → Decodes us value → InUnits us → InUnits value × (length value ≤ length us)
decoded nothing w = (refl, omega arith)
decoded (more text rest units value e later) w =
    let here : IsPiece (length text) (Some (units, rest)) = subst (IsPiece (length text)) e (piece_is text w) in
    let end = decoded later here.1 in
    let l = length-append units value in
    let m = here.2 in
    let k = end.1 in
    (joined_units units value here.0 end.0, omega arith)

pub decoded_part : {us value : List ℕ} → Decodes us value → IsPart us → IsPart value
decoded_part {us} {value} d h = let is = decoded d h.units in shorter_part us value h is.0 is.1
