-- A string literal is read back as its units.
use Rattle.std.proofs.Common.{◌≡◌, ◌∙◌, ℕ, ◌+◌, ◌*◌, ◌/◌, ◌%◌, ◌<◌, Bool, true, false, List, [], ◌∷◌, ◌++◌, Some, refl, ap, append_assoc, arith}
use Rattle.std.specs.Prelude.{◌==◌, codes, if◌then◌else◌}
use Rattle.std.specs.Char.{digit_value, digit_char, to_ascii_uppercase}
use Rattle.std.specs.List.{list_all, flat_map}
use Rattle.std.proofs.lemmas.Bool.Decides.{nat_tests}
use Rattle.std.proofs.lemmas.Bool.{and_parts}
use Rattle.js_core.specs.Characters.{is_line_end}
use Rattle.js_core.specs.LineText.{unit_escape, hex_digit_of}
use Rattle.js_core.specs.declared.token.TokenKind.TheVariants as kind
use Rattle.js_lexer.specs.Characters.{is_hex_digit}
use Rattle.js_lexer.specs.Strings.{unit_escaped_by, hex_pair, quad_escape, escape_of, character_of, Closes}
use Rattle.js_lexer.specs.Strings.Closes.{here, later}
use Rattle.js_lexer.specs.Tokens.{TokenAt}
use Rattle.js_lexer.specs.Tokens.TokenAt.{string}
use Rattle.js_print.specs.Spelling.{is_plain, string_unit, string_text}
use Rattle.js_print.specs.Written.{is_unit}

-- ---- digits

digit_is_read : (d : ℕ) → d < 16 → (is_hex_digit (to_ascii_uppercase (digit_char d)) ≡ true) × (digit_value (to_ascii_uppercase (digit_char d)) ≡ d)
digit_is_read d l = (grind (arith, nat_tests), grind (arith, nat_tests))

place_is_read : (p u : ℕ) → (is_hex_digit (hex_digit_of p u) ≡ true) × (digit_value (hex_digit_of p u) ≡ u / p % 16)
place_is_read p u = digit_is_read (u / p % 16) (omega arith)

pair_is_read : (p q u : ℕ) (rest : List ℕ) → hex_pair (hex_digit_of p u ∷ hex_digit_of q u ∷ rest) ≡ Some (16 * (u / p % 16) + u / q % 16, rest)
pair_is_read p q u rest =
    let a = place_is_read p u in
    let b = place_is_read q u in
    rw (a.0, b.0, a.1, b.1) refl

sum_of_places : (u : ℕ) → u < 65536 → 256 * (16 * (u / 0x1000 % 16) + u / 0x100 % 16) + (16 * (u / 0x10 % 16) + u / 1 % 16) ≡ u
sum_of_places u l = omega arith

-- ---- characters

escape_is_read : (u : ℕ) (rest : List ℕ) → is_unit u ≡ true → character_of 34 (unit_escape u ++ rest) ≡ Some (Some u, rest)
unfolding character_of escape_of is_line_end
escape_is_read u rest l =
    let low : u < 65536 = grind (arith, nat_tests) in
    ap quad_escape (pair_is_read 0x1000 0x100 u (hex_digit_of 0x10 u ∷ hex_digit_of 1 u ∷ rest)) ∙ second ∙ ap (λ v. Some (Some v, rest)) (sum_of_places u low)
  where
    second : quad_escape (Some (16 * (u / 0x1000 % 16) + u / 0x100 % 16, hex_digit_of 0x10 u ∷ hex_digit_of 1 u ∷ rest)) ≡ Some (Some (256 * (16 * (u / 0x1000 % 16) + u / 0x100 % 16) + (16 * (u / 0x10 % 16) + u / 1 % 16)), rest)
    second = rw (pair_is_read 0x10 1 u rest) refl

plain_is_read : (u : ℕ) (rest : List ℕ) → is_plain u ≡ true → character_of 34 (u ∷ rest) ≡ Some (Some u, rest)
unfolding character_of is_line_end
plain_is_read u rest p =
    let quote : (u == 34) ≡ false = grind (arith, nat_tests) in
    let line : is_line_end u ≡ false = grind (arith, nat_tests) in
    let backslash : (u == 92) ≡ false = grind (arith, nat_tests) in
    rw (quote, line, backslash) refl

quote_is_read : (u : ℕ) (rest : List ℕ) → (u == 34) ≡ true → character_of 34 (codes "\\\"" ++ rest) ≡ Some (Some u, rest)
unfolding character_of escape_of unit_escaped_by is_line_end
quote_is_read u rest e = let same : 34 ≡ u = grind (arith, nat_tests) in ap (λ v. Some (Some v, rest)) same

backslash_is_read : (u : ℕ) (rest : List ℕ) → (u == 92) ≡ true → character_of 34 (codes "\\\\" ++ rest) ≡ Some (Some u, rest)
unfolding character_of escape_of unit_escaped_by is_line_end
backslash_is_read u rest e = let same : 92 ≡ u = grind (arith, nat_tests) in ap (λ v. Some (Some v, rest)) same

unit_is_read : (u : ℕ) (rest : List ℕ) → is_unit u ≡ true → character_of 34 (string_unit u ++ rest) ≡ Some (Some u, rest)
unit_is_read u rest l = by_plain (is_plain u) refl
  where
    by_backslash : (b : Bool) → (u == 0x5C) ≡ b → character_of 34 ((if b then codes "\\\\" else unit_escape u) ++ rest) ≡ Some (Some u, rest)
    by_backslash true e = backslash_is_read u rest e
    by_backslash false e = escape_is_read u rest l

    by_quote : (b : Bool) → (u == 0x22) ≡ b → character_of 34 ((if b then codes "\\\"" else (if u == 0x5C then codes "\\\\" else unit_escape u)) ++ rest) ≡ Some (Some u, rest)
    by_quote true e = quote_is_read u rest e
    by_quote false e = by_backslash (u == 0x5C) refl

    by_plain : (b : Bool) → is_plain u ≡ b → character_of 34 ((if b then u ∷ [] else (if u == 0x22 then codes "\\\"" else (if u == 0x5C then codes "\\\\" else unit_escape u))) ++ rest) ≡ Some (Some u, rest)
    by_plain true e = plain_is_read u rest e
    by_plain false e = by_quote (u == 0x22) refl

closes : (us rest : List ℕ) → list_all is_unit us ≡ true → Closes 34 ((flat_map string_unit us ++ codes "\"") ++ rest) rest us
closes [] rest l = here rest
closes (u ∷ us) rest l =
    let more = flat_map string_unit us in
    let apart : (((string_unit u ++ more) ++ codes "\"") ++ rest) ≡ string_unit u ++ ((more ++ codes "\"") ++ rest) =
    ap (λ x. x ++ rest) (append_assoc (string_unit u) more (codes "\"")) ∙ append_assoc (string_unit u) (more ++ codes "\"") rest in
    later _ ((more ++ codes "\"") ++ rest) rest (Some u) us (ap (character_of 34) apart ∙ unit_is_read u ((more ++ codes "\"") ++ rest) (and_parts (is_unit u) _ l).0) (closes us rest (and_parts (is_unit u) _ l).1)

pub string_stands : (us rest : List ℕ) → list_all is_unit us ≡ true → TokenAt (string_text us ++ rest) rest (kind.Text us)
string_stands us rest l = string 34 ((flat_map string_unit us ++ codes "\"") ++ rest) rest us refl (closes us rest l)
