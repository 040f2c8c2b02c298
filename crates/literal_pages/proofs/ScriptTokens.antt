-- The tokens of a script that is a part of a page: their names and texts are no longer than it, and they are no more than its units.
use Rattle.std.proofs.Common.{◌≡◌, ◌∙◌, ℕ, suc, ◌+◌, ◌*◌, ◌<◌, ◌≤◌, Bool, true, false, cond, nat_lt, not, ◌&&◌, ◌||◌, ◌==◌, List, [], ◌∷◌, ◌++◌, drop, length, length-append, Option, Some, None, refl, ap, subst, arith}
use Rattle.std.specs.Prelude.{if◌then◌else◌}
use Rattle.std.specs.Char.{digit_value}
use Rattle.std.specs.List.{prefix_len}
use Rattle.std.proofs.lemmas.Bool.{ltb-true}
use Rattle.js_core.specs.Characters.{is_line_end, is_white_space}
use Rattle.js_core.specs.Spelling.{punct_text}
use Rattle.js_core.specs.declared.token.Punct.{Punct}
use Rattle.js_core.specs.declared.token.Punct.TheVariants as mark
use Rattle.js_core.specs.declared.token.Token.{Token}
use Rattle.js_core.specs.declared.token.TokenKind.{TokenKind}
use Rattle.js_core.specs.declared.token.TokenKind.TheVariants as kind
use Rattle.js_lexer.specs.Characters.{begins_with, is_decimal_digit, is_hex_digit}
use Rattle.js_lexer.specs.Numbers.{value_of}
use Rattle.js_lexer.specs.Separators.{Gap, behind_comment, behind_line, comment_of, separator_of, with_line_end}
use Rattle.js_lexer.specs.Strings.{Closes, character_of, escape_of, hex_pair, pair_escape, quad_escape, unit_escaped_by, with_pair, with_unit}
use Rattle.js_lexer.specs.Tokens as tokens
use Rattle.js_lexer.specs.Tokens.{TokenAt, TokensOf}
use Rattle.literal_pages.proofs.Parts.{dropped_count}

-- what stands behind something that was found has no more than so many units
abbrev IsShort : {A : Type 0} → ℕ → Option (A × List ℕ) → Type 0
IsShort n None = Unit {0}
IsShort n (Some (a, rest)) = length rest ≤ n

either : {A : Type 0} (n : ℕ) (b : Bool) (p q : Option (A × List ℕ)) → IsShort n p → IsShort n q → IsShort n (cond b p q)
either n true p q h k = h
either n false p q h k = k

longer : {A : Type 0} (m n : ℕ) (p : Option (A × List ℕ)) → m ≤ n → IsShort m p → IsShort n p
longer m n None l h = tt
longer m n (Some (a, rest)) l h = omega arith

one_more : (m n : ℕ) → m ≤ n → m ≤ suc n
one_more m n l = omega arith

-- ---- what stands before tokens

line_end_short : (n : ℕ) (line : Bool) (p : Option (Bool × List ℕ)) → IsShort n p → IsShort n (with_line_end line p)
line_end_short n line None h = tt
line_end_short n line (Some (later, rest)) h = h

comment_short : (us : List ℕ) → IsShort (length us) (behind_comment us)
comment_short [] = tt
comment_short (u ∷ us) =
    let l = dropped_count 1 us in
    either (suc (length us)) ((u == 42) && begins_with (λ v. v == 47) us) (Some (false, drop 1 us)) (with_line_end (is_line_end u) (behind_comment us)) (omega arith)
    (line_end_short (suc (length us)) (is_line_end u) (behind_comment us) (longer (length us) (suc (length us)) (behind_comment us) (omega arith) (comment_short us)))

opened_short : (us : List ℕ) → IsShort (length us) (comment_of us)
opened_short [] = tt
opened_short (u ∷ us) =
    either (suc (length us)) (u == 47) (Some (false, behind_line us)) (if u == 42 then behind_comment us else None) (one_more _ _ (dropped_count (prefix_len (λ v. not (is_line_end v)) us) us))
    (either (suc (length us)) (u == 42) (behind_comment us) None (longer (length us) (suc (length us)) (behind_comment us) (omega arith) (comment_short us)) tt)

separator_short : (us : List ℕ) → IsShort (length us) (separator_of us)
unfolding separator_of
separator_short [] = tt
separator_short (u ∷ us) =
    let n : ℕ = suc (length us) in
    either n (is_white_space u) (Some (false, us)) (if is_line_end u then Some (true, us) else (if u == 47 then comment_of us else None)) (omega arith)
    (either n (is_line_end u) (Some (true, us)) (if u == 47 then comment_of us else None) (omega arith)
    (either n (u == 47) (comment_of us) None (longer (length us) n (comment_of us) (omega arith) (opened_short us)) tt))

gap_short : {text rest : List ℕ} {line : Bool} → Gap text rest line → length rest ≤ length text
gap_short (Gap.none text e) = omega arith
gap_short (Gap.more text behind rest line later e gap) =
    let here : IsShort (length text) (Some (line, behind)) = subst (IsShort (length text)) e (separator_short text) in
    let l = gap_short gap in
    omega arith

-- ---- strings

hex_short : (us : List ℕ) → IsShort (length us) (hex_pair us)
hex_short [] = tt
hex_short (a ∷ []) = tt
hex_short (a ∷ b ∷ us) =
    either (suc (suc (length us))) (is_hex_digit a && is_hex_digit b) (Some (16 * digit_value a + digit_value b, us)) None (omega arith) tt

pair_short : (n : ℕ) (p : Option (ℕ × List ℕ)) → IsShort n p → IsShort n (pair_escape p)
pair_short n None h = tt
pair_short n (Some (unit, us)) h = h

second_short : (n high : ℕ) (p : Option (ℕ × List ℕ)) → IsShort n p → IsShort n (with_pair high p)
second_short n high None h = tt
second_short n high (Some (low, us)) h = h

quad_short : (n : ℕ) (p : Option (ℕ × List ℕ)) → IsShort n p → IsShort n (quad_escape p)
quad_short n None h = tt
quad_short n (Some (high, us)) h = second_short n high (hex_pair us) (longer (length us) n (hex_pair us) h (hex_short us))

escape_short : (us : List ℕ) → IsShort (length us) (escape_of us)
unfolding escape_of
escape_short [] = tt
escape_short (u ∷ us) =
    let n : ℕ = suc (length us) in
    either n (u == 13) (Some (None, if begins_with (λ v. v == 10) us then drop 1 us else us)) _ (line_feed_short us (begins_with (λ v. v == 10) us))
    (either n (is_line_end u) (Some (None, us)) _ (omega arith)
    (either n (u == 120) (pair_escape (hex_pair us)) _ (longer (length us) n (pair_escape (hex_pair us)) (omega arith) (pair_short (length us) (hex_pair us) (hex_short us)))
    (either n (u == 117) (quad_escape (hex_pair us)) _ (longer (length us) n (quad_escape (hex_pair us)) (omega arith) (quad_short (length us) (hex_pair us) (hex_short us)))
    (either n (is_decimal_digit u) (if (u == 48) && not (begins_with is_decimal_digit us) then Some (Some 0, us) else None) (Some (Some (unit_escaped_by u), us))
    (either n ((u == 48) && not (begins_with is_decimal_digit us)) (Some (Some 0, us)) None (omega arith) tt) (omega arith)))))
  where
    line_feed_short : (us : List ℕ) (b : Bool) → length (if b then drop 1 us else us) ≤ suc (length us)
    line_feed_short us true = let l = dropped_count 1 us in omega arith
    line_feed_short us false = omega arith

character_short : (quote u : ℕ) (us : List ℕ) → IsShort (length us) (character_of quote (u ∷ us))
unfolding character_of
character_short quote u us =
    either (length us) ((u == quote) || is_line_end u) None (if u == 92 then escape_of us else Some (Some u, us)) tt
    (either (length us) (u == 92) (escape_of us) (Some (Some u, us)) (escape_short us) (omega arith))

no_character : (quote : ℕ) (unit : Option ℕ) (behind : List ℕ) → character_of quote [] ≡ Some (unit, behind) → ⊥
unfolding character_of
no_character quote unit behind e = cc

unit_count : (unit : Option ℕ) (value : List ℕ) → length (with_unit unit value) ≤ suc (length value)
unit_count None value = omega arith
unit_count (Some unit) value = omega arith

closes_count : {quote : ℕ} {text rest value : List ℕ} → Closes quote text rest value → length value + length rest ≤ length text
closes_count (Closes.here rest) = omega arith
closes_count {quote} {rest = rest} (Closes.later text behind r unit value e h) = by text e (closes_count h) (unit_count unit value)
  where
    by : (us : List ℕ) → character_of quote us ≡ Some (unit, behind) → length value + length rest ≤ length behind → length (with_unit unit value) ≤ suc (length value)
        → length (with_unit unit value) + length rest ≤ length us
    by [] f l m = absurd (no_character quote unit behind f)
    by (u ∷ us) f l m =
        let here : IsShort (length us) (Some (unit, behind)) = subst (IsShort (length us)) f (character_short quote u us) in
        omega arith

-- ---- tokens

mark_is_some : (p : Punct) → nat_lt 0 (length (punct_text p)) ≡ true
mark_is_some mark.LeftBrace = refl
mark_is_some _ = refl

some_mark : (p : Punct) → 0 < length (punct_text p)
some_mark p = ltb-true 0 (length (punct_text p)) (mark_is_some p)

some_class : (class : ℕ → Bool) (us : List ℕ) → begins_with class us ≡ true → 1 ≤ length us
some_class class [] e = absurd (cc)
some_class class (u ∷ us) e = omega arith

some_number : (us : List ℕ) (value : ℕ) → value_of us ≡ Some value → 1 ≤ length us
unfolding value_of
some_number [] value e = absurd (cc)
some_number (u ∷ us) value e = omega arith

parts_count : (text units rest : List ℕ) → text ≡ units ++ rest → length text ≡ length units + length rest
parts_count text units rest e = ap length e ∙ length-append units rest

-- a name or a text has no more than so many units
abbrev pub IsShortKind : ℕ → TokenKind → Type 0
IsShortKind n (kind.Word w) = length w ≤ n
IsShortKind n (kind.Text t) = length t ≤ n
IsShortKind n k = Unit {0}

token_count : {text rest : List ℕ} {what : TokenKind} → TokenAt text rest what → (length rest < length text) × IsShortKind (length text) what
token_count (tokens.word text units rest at) =
    let l = parts_count text units rest at.joined in
    let m = some_class _ units at.starts in
    (omega arith, omega arith)
token_count (tokens.number text rest value at) =
    let l = parts_count text at.units rest at.joined in
    let m = some_number at.units value at.writes in
    (omega arith, tt)
token_count (tokens.string quote behind rest value q h) = let l = closes_count h in (omega arith, omega arith)
token_count (tokens.punctuator text rest punct at) =
    let l = parts_count text (punct_text punct) rest at.spelled in
    let m = some_mark punct in
    (omega arith, tt)

shorter_kind : (m n : ℕ) (k : TokenKind) → m ≤ n → IsShortKind m k → IsShortKind n k
shorter_kind m n (kind.Word w) l h = omega arith
shorter_kind m n (kind.Text t) l h = omega arith
shorter_kind m n (kind.Number v) l h = tt
shorter_kind m n (kind.Punct p) l h = tt

-- each is short, and those from it on are no more than so many
abbrev pub AreShort : ℕ → List Token → Type 0
AreShort n [] = Unit {0}
AreShort n (t ∷ ts) = (IsShortKind n t.what × (suc (length ts) ≤ n)) × AreShort n ts

shorter_tokens : (m n : ℕ) (ts : List Token) → m ≤ n → AreShort m ts → AreShort n ts
shorter_tokens m n [] l h = tt
shorter_tokens m n (t ∷ ts) l h = let k = h.0.1 in ((shorter_kind m n t.what l h.0.0, omega arith), shorter_tokens m n ts l h.1)

tokens_count : {size : ℕ} {text : List ℕ} {ts : List Token} → TokensOf size text ts → (length ts ≤ length text) × AreShort (length text) ts
tokens_count (tokens.none text line gap) = (omega arith, tt)
tokens_count (tokens.more text behind rest line what ts gap at later) =
    let l = gap_short gap in
    let here = token_count at in
    let m = here.0 in
    let after = tokens_count later in
    let k = after.0 in (
      omega arith,
      ((shorter_kind (length behind) (length text) what (omega arith) here.1, omega arith), shorter_tokens (length rest) (length text) ts (omega arith) after.1),
    )

pub tokens_short : {size : ℕ} {text : List ℕ} {ts : List Token} (n : ℕ) → length text ≤ n → TokensOf size text ts → AreShort n ts
tokens_short {text = text} {ts = ts} n l h = shorter_tokens (length text) n ts l (tokens_count h).1
