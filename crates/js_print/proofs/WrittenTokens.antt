-- The tokens of a text of 16-bit units can be written.
use Rattle.std.proofs.Common.{◌≡◌, ◌∙◌, ℕ, zero, suc, ◌+◌, ◌*◌, ◌<◌, ◌≤◌, Bool, true, false, List, [], ◌∷◌, ◌++◌, drop, Option, Some, None, refl, sym, ap, arith}
use Rattle.std.specs.Prelude.{not, ◌&&◌, ◌||◌, ◌==◌, nat_lt, IsTrue, if◌then◌else◌}
use Rattle.std.specs.Char.{digit_value}
use Rattle.std.specs.List.{All, list_all}
use Rattle.std.proofs.lemmas.Bool.Decides.{nat_tests}
use Rattle.std.proofs.lemmas.List.Elements.{All-nil, All-cons, All-weaker}
use Rattle.std.proofs.lemmas.List.Folds.{list_all-append}
use Rattle.std.proofs.lemmas.List.Sums.{list_all-from_AllPass}
use Rattle.std.proofs.lemmas.Bool.{and_from, and_parts, cond_both}
use Rattle.js_core.specs.Characters.{is_white_space, is_line_end}
use Rattle.js_core.specs.Spelling.{punct_text}
use Rattle.js_core.specs.Whole.{largest}
use Rattle.js_core.specs.declared.token.Token.{Token}
use Rattle.js_core.specs.declared.token.TokenKind.{TokenKind}
use Rattle.js_lexer.specs.Characters.{is_decimal_digit, is_hex_digit, begins_with}
use Rattle.js_lexer.specs.Separators.{with_line_end, behind_comment, behind_line, comment_of, separator_of, Gap}
use Rattle.js_lexer.specs.Separators.Gap.{none as no_more, more as separated}
use Rattle.js_lexer.specs.Strings.{Character, unit_escaped_by, hex_pair, pair_escape, with_pair, quad_escape, escape_of, character_of, with_unit, Closes}
use Rattle.js_lexer.specs.Strings.Closes.{here, later}
use Rattle.js_lexer.specs.Tokens.{TokenAt, TokensOf}
use Rattle.js_lexer.specs.Tokens.TokenAt.{word, number, string, punctuator}
use Rattle.js_lexer.specs.Tokens.TokensOf.{none, more}
use Rattle.js_print.specs.Written.{is_unit, can_be_written, TokensCanBeWritten}

abbrev are_units : List ℕ → Bool
are_units us = list_all is_unit us

passes_either : {A : Type 0} (q : A → Bool) (b : Bool) (x y : A) → q x ≡ true → q y ≡ true → q (if b then x else y) ≡ true
passes_either q true x y e f = e
passes_either q false x y e f = f

dropped : (n : ℕ) (us : List ℕ) → are_units us ≡ true → are_units (drop n us) ≡ true
dropped zero us e = e
dropped (suc n) [] e = refl
dropped (suc n) (u ∷ us) e = dropped n us (and_parts (is_unit u) _ e).1

behind_front : (front behind text : List ℕ) → text ≡ front ++ behind → are_units text ≡ true → (are_units front ≡ true) × (are_units behind ≡ true)
behind_front front behind text e w =
    let both : (are_units front && are_units behind) ≡ true = sym (list_all-append is_unit front behind) ∙ ap are_units (sym e) ∙ w in
    and_parts (are_units front) _ both

-- ---- white space and comments

abbrev leaves_units : Option (Bool × List ℕ) → Bool
leaves_units None = true
leaves_units (Some (line, behind)) = are_units behind

lines_leave : (line : Bool) (o : Option (Bool × List ℕ)) → leaves_units o ≡ true → leaves_units (with_line_end line o) ≡ true
lines_leave line None e = refl
lines_leave line (Some p) e = e

comment_leaves : (us : List ℕ) → are_units us ≡ true → leaves_units (behind_comment us) ≡ true
comment_leaves [] w = refl
comment_leaves (u ∷ us) w =
    let others = (and_parts (is_unit u) _ w).1 in
    passes_either leaves_units ((u == 42) && begins_with (λ v. v == 47) us) (Some (false, drop 1 us)) (with_line_end (is_line_end u) (behind_comment us)) (dropped 1 us others)
    (lines_leave (is_line_end u) (behind_comment us) (comment_leaves us others))

slash_leaves : (us : List ℕ) → are_units us ≡ true → leaves_units (comment_of us) ≡ true
slash_leaves [] w = refl
slash_leaves (u ∷ us) w =
    let others = (and_parts (is_unit u) _ w).1 in
    passes_either leaves_units (u == 47) (Some (false, behind_line us)) (if u == 42 then behind_comment us else None) (dropped _ us others)
    (passes_either leaves_units (u == 42) (behind_comment us) None (comment_leaves us others) refl)

separator_leaves : (us : List ℕ) → are_units us ≡ true → leaves_units (separator_of us) ≡ true
unfolding separator_of
separator_leaves [] w = refl
separator_leaves (u ∷ us) w =
    let others = (and_parts (is_unit u) _ w).1 in
    passes_either leaves_units (is_white_space u) (Some (false, us)) (if is_line_end u then Some (true, us) else (if u == 47 then comment_of us else None)) others
    (passes_either leaves_units (is_line_end u) (Some (true, us)) (if u == 47 then comment_of us else None) others
    (passes_either leaves_units (u == 47) (comment_of us) None (slash_leaves us others) refl))

gap_leaves : {text rest : List ℕ} {line : Bool} → Gap text rest line → are_units text ≡ true → are_units rest ≡ true
gap_leaves (no_more text e) w = w
gap_leaves (separated text behind rest line further e gap) w = gap_leaves gap (sym (ap leaves_units e) ∙ separator_leaves text w)

-- ---- strings

abbrev is_maybe_unit : Option ℕ → Bool
is_maybe_unit None = true
is_maybe_unit (Some u) = is_unit u

abbrev gives_units : Character → Bool
gives_units None = true
gives_units (Some (unit, behind)) = is_maybe_unit unit && are_units behind

abbrev is_byte : ℕ → Bool
is_byte u = nat_lt u 256

abbrev gives_bytes : Option (ℕ × List ℕ) → Bool
gives_bytes None = true
gives_bytes (Some (byte, behind)) = is_byte byte && are_units behind

two_digits : (a b : ℕ) → (is_hex_digit a && is_hex_digit b) ≡ true → is_byte (16 * digit_value a + digit_value b) ≡ true
two_digits a b h = two (digit_value a) (digit_value b) (and_parts _ _ h).0 (and_parts (is_hex_digit a) _ h).1
  where
    two : (m n : ℕ) → nat_lt m 16 ≡ true → nat_lt n 16 ≡ true → is_byte (16 * m + n) ≡ true
    two m n e f = grind (arith, nat_tests)

pair_gives : (us : List ℕ) → are_units us ≡ true → gives_bytes (hex_pair us) ≡ true
pair_gives [] w = refl
pair_gives (a ∷ []) w = refl
pair_gives (a ∷ b ∷ us) w =
    cond_both (is_hex_digit a && is_hex_digit b) (Some (16 * digit_value a + digit_value b, us)) None (λ p. gives_bytes p ≡ true)
    (λ h. and_from _ _ (two_digits a b h) (and_parts (is_unit b) _ (and_parts (is_unit a) _ w).1).1) (λ h. refl)

byte_is_unit : (u : ℕ) → is_byte u ≡ true → is_unit u ≡ true
byte_is_unit u e = grind (arith, nat_tests)

two_bytes : (m n : ℕ) → is_byte m ≡ true → is_byte n ≡ true → is_unit (256 * m + n) ≡ true
two_bytes m n e f = grind (arith, nat_tests)

pair_escape_gives : (o : Option (ℕ × List ℕ)) → gives_bytes o ≡ true → gives_units (pair_escape o) ≡ true
pair_escape_gives None e = refl
pair_escape_gives (Some (u, us)) e = and_from _ _ (byte_is_unit u (and_parts _ _ e).0) (and_parts (is_byte u) _ e).1

with_pair_gives : (high : ℕ) (o : Option (ℕ × List ℕ)) → is_byte high ≡ true → gives_bytes o ≡ true → gives_units (with_pair high o) ≡ true
with_pair_gives high None h e = refl
with_pair_gives high (Some (low, us)) h e = and_from _ _ (two_bytes high low h (and_parts _ _ e).0) (and_parts (is_byte low) _ e).1

quad_escape_gives : (o : Option (ℕ × List ℕ)) → gives_bytes o ≡ true → gives_units (quad_escape o) ≡ true
quad_escape_gives None e = refl
quad_escape_gives (Some (high, us)) e = with_pair_gives high (hex_pair us) (and_parts _ _ e).0 (pair_gives us (and_parts (is_byte high) _ e).1)

letter_gives : (u : ℕ) → is_unit u ≡ true → is_unit (unit_escaped_by u) ≡ true
unfolding unit_escaped_by
letter_gives u w =
    passes_either is_unit (u == 98) 8 _ refl
    (passes_either is_unit (u == 116) 9 _ refl
    (passes_either is_unit (u == 110) 10 _ refl
    (passes_either is_unit (u == 118) 11 _ refl
    (passes_either is_unit (u == 102) 12 _ refl
    (passes_either is_unit (u == 114) 13 u refl w)))))

escape_gives : (us : List ℕ) → are_units us ≡ true → gives_units (escape_of us) ≡ true
unfolding escape_of
escape_gives [] w = refl
escape_gives (u ∷ us) w =
    let unit = (and_parts (is_unit u) _ w).0 in
    let others = (and_parts (is_unit u) _ w).1 in
    passes_either gives_units (u == 13) _ _ (passes_either are_units (begins_with (λ v. v == 10) us) (drop 1 us) us (dropped 1 us others) others)
    (passes_either gives_units (is_line_end u) _ _ others
    (passes_either gives_units (u == 120) _ _ (pair_escape_gives (hex_pair us) (pair_gives us others))
    (passes_either gives_units (u == 117) _ _ (quad_escape_gives (hex_pair us) (pair_gives us others))
    (passes_either gives_units (is_decimal_digit u) _ _ (passes_either gives_units ((u == 48) && not (begins_with is_decimal_digit us)) (Some (Some 0, us)) None others refl)
    (and_from _ _ (letter_gives u unit) others)))))

character_gives : (quote : ℕ) (us : List ℕ) → are_units us ≡ true → gives_units (character_of quote us) ≡ true
unfolding character_of
character_gives quote [] w = refl
character_gives quote (u ∷ us) w =
    let others = (and_parts (is_unit u) _ w).1 in
    passes_either gives_units ((u == quote) || is_line_end u) None _ refl
    (passes_either gives_units (u == 92) (escape_of us) (Some (Some u, us)) (escape_gives us others) w)

with_unit_is_units : (unit : Option ℕ) (value : List ℕ) → is_maybe_unit unit ≡ true → are_units value ≡ true → are_units (with_unit unit value) ≡ true
with_unit_is_units None value e f = f
with_unit_is_units (Some u) value e f = and_from _ _ e f

closes_units : {quote : ℕ} {text rest value : List ℕ} → Closes quote text rest value → are_units text ≡ true → (are_units value ≡ true) × (are_units rest ≡ true)
closes_units {quote} (here rest) w = (refl, (and_parts (is_unit quote) _ w).1)
closes_units {quote} (later text behind rest unit value e further) w =
    let given : (is_maybe_unit unit && are_units behind) ≡ true = sym (ap gives_units e) ∙ character_gives quote text w in
    let others = closes_units further (and_parts (is_maybe_unit unit) _ given).1 in
    (with_unit_is_units unit value (and_parts _ _ given).0 others.0, others.1)

-- ---- tokens

token_is_written : {text rest : List ℕ} {what : TokenKind} → TokenAt text rest what → are_units text ≡ true → (can_be_written what ≡ true) × (are_units rest ≡ true)
token_is_written (word text units rest at) w =
    let parts = behind_front units rest text at.joined w in
    (and_from _ _ (and_from _ _ at.starts at.goes_on) parts.0, parts.1)
token_is_written (number text rest value at) w =
    let parts = behind_front at.units rest text at.joined w in
    let le : value ≤ largest = at.in_range in
    (grind (arith, nat_tests), parts.1)
token_is_written (string quote behind rest value q c) w = closes_units c (and_parts (is_unit quote) _ w).1
token_is_written (punctuator text rest punct at) w = (refl, (behind_front (punct_text punct) rest text at.spelled w).1)

tokens_are_written : {size : ℕ} {text : List ℕ} {tokens : List Token} → TokensOf size text tokens → are_units text ≡ true → All (λ t. IsTrue (can_be_written t.what)) tokens
tokens_are_written (none text line gap) w = All-nil (λ t. IsTrue (can_be_written t.what))
tokens_are_written {size} (more text behind rest line what tokens gap at others) w =
    let this = token_is_written at (gap_leaves gap w) in
    All-cons (λ t. IsTrue (can_be_written t.what)) _ tokens this.0 (tokens_are_written others this.1)

unit_passes : (u : ℕ) → u < 65536 → is_unit u ≡ true
unit_passes u l = grind (arith, nat_tests)

pub tokens_can_be_written : TokensCanBeWritten
tokens_can_be_written text tokens units read =
    tokens_are_written read (list_all-from_AllPass is_unit text (All-weaker (λ u. u < 65536) (λ u. is_unit u ≡ true) unit_passes text units))
