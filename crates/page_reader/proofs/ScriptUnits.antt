-- The texts of scripts have 16-bit units.
use Rattle.std.proofs.Common.{◌≡◌, ◌∙◌, ℕ, ◌+◌, ◌-◌, ◌/◌, ◌%◌, ◌<◌, ◌==◌, ◌&&◌, Bool, true, false, cond, nat_le, nat_lt, List, [], ◌∷◌, ◌++◌, map, length, refl, sym, ap, subst, arith}
use Rattle.std.specs.Char.Escape.{encode_utf16}
use Rattle.std.specs.List.{All, flat_map, list_all}
use Rattle.std.specs.Str.{IsUtf8, all_scalars}
use Rattle.std.proofs.lemmas.Bool.{and_from, and_parts, lt-ltb, ltb-true}
use Rattle.std.proofs.lemmas.List.Elements.{All-cons, All-nil}
use Rattle.std.proofs.lemmas.List.Folds.{list_all-append}
use Rattle.std.proofs.lemmas.Str.{chars-encodes}
use Rattle.js_core.specs.Text.{AllUnits, Text, utf16_of}
use Rattle.dom_tree.specs.Node.{Nodes}
use Rattle.page_tokens.specs.declared.token.PageToken.{PageToken}
use Rattle.page_tokens.specs.declared.token.PageToken.TheVariants.{Comment, Doctype, EndTag, Raw, Space, StartTag}
use Rattle.page_tokens.specs.declared.token.PageToken.TheVariants as token
use Rattle.page_tokens.specs.declared.token.RawText.{RawText}
use Rattle.page_tokens.specs.Tokens.{TokenAt, TokensOf}
use Rattle.page_tokens.specs.Tokens.TokensOf.{none, more}
use Rattle.page_tokens.proofs.Callers.{is_raw, moves_at, raw_moves_at}
use Rattle.page_reader.specs.declared.page.ScriptText.{ScriptText}
use Rattle.page_reader.specs.Bytes.{IsPageOf}
use Rattle.page_reader.specs.Elements.{is_script}
use Rattle.page_reader.specs.Text.{is_half, mark_size, page_text, with_line_feeds, without_mark}
use Rattle.page_reader.proofs.Renewing.{page_scripts, scripts_in}
use Rattle.page_reader.proofs.Swapped.{script_texts}

-- a 16-bit unit
abbrev is_unit : ℕ → Bool
is_unit u = nat_lt u 65536

abbrev are_units : Text → Bool
are_units us = list_all is_unit us

-- ---- the units of UTF-8

scalar_low : (c : ℕ) → all_scalars (c ∷ []) ≡ true → c < 1114112
scalar_low c h = by (nat_lt c 55296) refl (nat_le 57344 c) h
  where
    by : (a : Bool) → nat_lt c 55296 ≡ a → (b : Bool) → (cond a true (b && nat_lt c 1114112) && true) ≡ true → c < 1114112
    by true e b g = omega (arith, ltb-true c 55296 e)
    by false e b g = ltb-true c 1114112 (and_parts b (nat_lt c 1114112) (and_parts (b && nat_lt c 1114112) true g).0).1

low_unit : (u : ℕ) → u < 65536 → is_unit u ≡ true
low_unit u h = lt-ltb u 65536 h

high_unit : (c : ℕ) → c < 1114112 → is_unit (0xD800 + (c - 0x1_0000) / 0x400) ≡ true
high_unit c h = low_unit (0xD800 + (c - 0x1_0000) / 0x400) (omega arith)

last_unit : (c : ℕ) → is_unit (0xDC00 + (c - 0x1_0000) % 0x400) ≡ true
last_unit c = low_unit (0xDC00 + (c - 0x1_0000) % 0x400) (omega arith)

units_of_one : (c : ℕ) → c < 1114112 → are_units (encode_utf16 c) ≡ true
units_of_one c h = by (nat_lt c 0x1_0000) refl
  where
    by : (b : Bool) → nat_lt c 0x1_0000 ≡ b → are_units (encode_utf16 c) ≡ true
    by true e = rw e (and_from (is_unit c) true (low_unit c (ltb-true c 0x1_0000 e)) refl)
    by false e = rw e (and_from _ _ (high_unit c h) (and_from _ true (last_unit c) refl))

units_of_all : (cs : List ℕ) → all_scalars cs ≡ true → are_units (flat_map encode_utf16 cs) ≡ true
units_of_all [] h = refl
units_of_all (c ∷ cs) h =
    let parts = and_parts (cond (nat_lt c 55296) true (nat_le 57344 c && nat_lt c 1114112)) (all_scalars cs) h in
    list_all-append is_unit (encode_utf16 c) (flat_map encode_utf16 cs)
    ∙ and_from (are_units (encode_utf16 c)) (are_units (flat_map encode_utf16 cs))
    (units_of_one c (scalar_low c (and_from _ true parts.0 refl))) (units_of_all cs parts.1)

utf8_units : (bytes : List ℕ) → IsUtf8 bytes → are_units (utf16_of bytes) ≡ true
utf8_units bytes h =
    subst (λ bs. are_units (utf16_of bs) ≡ true) h.1.1
    (ap (λ cs. are_units (flat_map encode_utf16 cs)) (chars-encodes h.0 h.1.0) ∙ units_of_all h.0 h.1.0)

-- ---- those of the page's text

line_feed_units : (us : Text) → are_units us ≡ true → are_units (with_line_feeds us) ≡ true
line_feed_units [] h = refl
line_feed_units (u ∷ us) h =
    let parts = and_parts (is_unit u) (are_units us) h in
    by (is_half u us) (u == 13) parts.0 (line_feed_units us parts.1)
  where
    by : (a b : Bool) → is_unit u ≡ true → are_units (with_line_feeds us) ≡ true
        → are_units (cond a (with_line_feeds us) (cond b 10 u ∷ with_line_feeds us)) ≡ true
    by true b here later = later
    by false true here later = later
    by false false here later = and_from (is_unit u) (are_units (with_line_feeds us)) here later

unmarked_units : (us : Text) → are_units us ≡ true → are_units (without_mark us) ≡ true
unmarked_units [] h = refl
unmarked_units (u ∷ us) h = by (u == 65279)
  where
    by : (b : Bool) → are_units (cond b us (u ∷ us)) ≡ true
    by true = (and_parts (is_unit u) (are_units us) h).1
    by false = h

-- ---- those of parts of it

right_units : (xs ys : Text) → are_units (xs ++ ys) ≡ true → are_units ys ≡ true
right_units xs ys h = (and_parts (are_units xs) (are_units ys) (sym (list_all-append is_unit xs ys) ∙ h)).1

left_units : (xs ys : Text) → are_units (xs ++ ys) ≡ true → are_units xs ≡ true
left_units xs ys h = (and_parts (are_units xs) (are_units ys) (sym (list_all-append is_unit xs ys) ∙ h)).0

all_units : (us : Text) → are_units us ≡ true → AllUnits us
all_units [] h = All-nil (λ u. u < 65536)
all_units (u ∷ us) h =
    let parts = and_parts (is_unit u) (are_units us) h in
    All-cons (λ x. x < 65536) u us (ltb-true u 65536 parts.0) (all_units us parts.1)

-- ---- tokens

abbrev raw_texts : List RawText → List Text
raw_texts raws = map (λ r. r.text) raws

rest_units : (size : ℕ) (us rest : Text) (t : PageToken) → is_raw t ≡ false → TokenAt size us rest t → are_units us ≡ true → are_units rest ≡ true
rest_units size us rest t r at h =
    let m = moves_at size us rest t r at in
    right_units m.front rest (subst (λ x. are_units x ≡ true) m.is_front h)

token_units : (size : ℕ) (us : Text) (ts : List PageToken) → TokensOf size us ts → are_units us ≡ true → All AllUnits (raw_texts (scripts_in ts))
token_units size us ts none h = All-nil AllUnits
token_units size us ts (more vs rest (Space v) os at k) h = token_units size rest os k (rest_units size vs rest (Space v) refl at h)
token_units size us ts (more vs rest (token.Text v) os at k) h = token_units size rest os k (rest_units size vs rest (token.Text v) refl at h)
token_units size us ts (more vs rest (Comment v) os at k) h = token_units size rest os k (rest_units size vs rest (Comment v) refl at h)
token_units size us ts (more vs rest Doctype os at k) h = token_units size rest os k (rest_units size vs rest Doctype refl at h)
token_units size us ts (more vs rest (StartTag v) os at k) h = token_units size rest os k (rest_units size vs rest (StartTag v) refl at h)
token_units size us ts (more vs rest (EndTag v) os at k) h = token_units size rest os k (rest_units size vs rest (EndTag v) refl at h)
token_units size us ts (more vs rest (Raw tag raw) os at k) h =
    let m = raw_moves_at size vs rest tag raw at in
    let tail : Text = (60 ∷ m.mark) ++ rest in
    let inner = right_units (m.opens ++ 62 ∷ []) (raw.text ++ tail) (subst (λ x. are_units x ≡ true) m.whole h) in
    let others = token_units size rest os k (right_units (60 ∷ m.mark) rest (right_units raw.text tail inner)) in
    by (is_script tag.name) (all_units raw.text (left_units raw.text tail inner)) others
  where
    by : (b : Bool) → AllUnits raw.text → All AllUnits (raw_texts (scripts_in os)) → All AllUnits (raw_texts (cond b (raw ∷ scripts_in os) (scripts_in os)))
    by true one others = All-cons AllUnits raw.text (raw_texts (scripts_in os)) one others
    by false one others = others

-- ---- pages

pub scripts_have_units : (bytes : List ℕ) (nodes : Nodes) (scripts : List ScriptText) → IsPageOf bytes nodes scripts → All AllUnits (map (λ s. s.text) scripts)
scripts_have_units bytes nodes scripts p =
    let units = utf16_of bytes in
    let all = p.units.text in
    let raws = p.units.raws in
    let low = line_feed_units (without_mark units) (unmarked_units units (utf8_units bytes p.utf8)) in
    let found = token_units (length (page_text units)) (page_text units) all.tokens all.reads low in
    let same : map (λ s. s.text) scripts ≡ raw_texts raws = ap (λ (ss : List ScriptText). map (λ s. s.text) ss) p.units.placed ∙ script_texts (mark_size units) (without_mark units) raws in
    subst (All AllUnits) (ap raw_texts (page_scripts all.tokens nodes raws all.is_page) ∙ sym same) found
