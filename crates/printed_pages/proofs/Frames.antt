-- What bytes may be a script's text, and that such a text in the frame of a saved page is that of its script.
use Rattle.std.proofs.Common.{◌≡◌, ◌∙◌, ℕ, ◌<◌, Bool, true, false, List, [], ◌∷◌, ◌++◌, refl, sym, ap, arith}
use Rattle.std.specs.Prelude.{not, ◌&&◌, ◌||◌, ◌==◌, if◌then◌else◌, nat_lt, codes, encode_utf8, encode_utf8_all, IsUtf8}
use Rattle.std.specs.Char.{to_ascii_lowercase}
use Rattle.std.specs.Char.Escape.{encode_utf16}
use Rattle.std.specs.List.{list_all, list_any, flat_map}
use Rattle.std.specs.Str.{all_scalars}
use Rattle.std.proofs.lemmas.Bool.{and_from, and_parts}
use Rattle.std.proofs.lemmas.Bool.Decides.{nat_tests}
use Rattle.std.proofs.lemmas.Grind.{flat_map-append}
use Rattle.std.proofs.lemmas.List.Folds.{list_all-append}
use Rattle.std.proofs.lemmas.Str.{chars-encodes, encodes-append, encode_ascii, IsUtf8-append}
use Rattle.js_core.specs.Text.{utf16_of}
use Rattle.js_print.specs.Laws.{HasNoEndTag, is_ascii_text}
use Rattle.js_print.specs.Lined.{is_lined}
use Rattle.page_reader.specs.Laws.{IsScriptPage, body_text, mark_text}
use Rattle.page_reader.specs.Laws.Mark.{form_page_mark}
use Rattle.page_reader.specs.Replacing.{IsScriptBytes}
use Rattle.page_reader.specs.Text.{begins_with_line_feed, has_zero, with_line_feeds}
use Rattle.page_tokens.specs.Characters.{is_front_in_any_case}
use Rattle.page_tokens.specs.Laws.{has_end_tag}
use Rattle.printed_pages.specs.Printed.{framed, page_back, page_front}

-- ---- no end tag

less_alone : (u : ℕ) → (to_ascii_lowercase u == 60) ≡ true → u ≡ 60
less_alone u e = grind (arith, nat_tests)

slash_alone : (u : ℕ) → (to_ascii_lowercase u == 47) ≡ true → u ≡ 47
slash_alone u e = grind (arith, nat_tests)

tag_begins : (u : ℕ) (us : List ℕ) → HasNoEndTag (u ∷ us) → is_front_in_any_case (codes "</script") (u ∷ us) ≡ true → ⊥
tag_begins u [] none e = absurd (cc (and_parts (to_ascii_lowercase u == 60) false e).1)
tag_begins u (v ∷ us) none e =
    let less = less_alone u (and_parts (to_ascii_lowercase u == 60) _ e).0 in
    let slash = slash_alone v (and_parts (to_ascii_lowercase v == 47) _ (and_parts (to_ascii_lowercase u == 60) _ e).1).0 in
    none [] us (ap (λ (x : ℕ). x ∷ v ∷ us) less ∙ ap (λ (x : ℕ). 60 ∷ x ∷ us) slash)

pub no_end_tag : (us : List ℕ) → HasNoEndTag us → has_end_tag (codes "script") us ≡ false
no_end_tag [] none = refl
no_end_tag (u ∷ us) none =
    by (is_front_in_any_case (codes "</script") (u ∷ us)) (tag_begins u us none)
    (no_end_tag us (λ before after e. none (u ∷ before) after (ap (λ (x : List ℕ). u ∷ x) e)))
  where
    by : (b : Bool) → (b ≡ true → ⊥) → has_end_tag (codes "script") us ≡ false → (b || has_end_tag (codes "script") us) ≡ false
    by true none more = absurd (none refl)
    by false none more = more

-- ---- line ends, and U+0000

-- it is no CR and not U+0000
abbrev pub stays : ℕ → Bool
stays u = not (u == 13) && not (u == 0)

lined_stays : (u : ℕ) → is_lined u ≡ true → stays u ≡ true
lined_stays u e = grind (arith, nat_tests)

pub all_stay : (us : List ℕ) → list_all is_lined us ≡ true → list_all stays us ≡ true
all_stay [] e = refl
all_stay (u ∷ us) e = and_from (stays u) _ (lined_stays u (and_parts (is_lined u) _ e).0) (all_stay us (and_parts (is_lined u) _ e).1)

pub with_same : (us : List ℕ) → list_all stays us ≡ true → with_line_feeds us ≡ us
with_same [] e = refl
with_same (u ∷ us) e = by (u == 13) (begins_with_line_feed us) (and_parts (not (u == 13)) _ (and_parts (stays u) _ e).0).0 (with_same us (and_parts (stays u) _ e).1)
  where
    by : (b c : Bool) → not b ≡ true → with_line_feeds us ≡ us → (if b && c then with_line_feeds us else (if b then 10 else u) ∷ with_line_feeds us) ≡ u ∷ us
    by true c off more = absurd (cc)
    by false c off more = ap (λ (x : List ℕ). u ∷ x) more

return_free : (us : List ℕ) → list_all stays us ≡ true → list_any (λ u. u == 13) us ≡ false
return_free [] e = refl
return_free (u ∷ us) e = by (u == 13) (and_parts (not (u == 13)) _ (and_parts (stays u) _ e).0).0 (return_free us (and_parts (stays u) _ e).1)
  where
    by : (b : Bool) → not b ≡ true → list_any (λ u. u == 13) us ≡ false → (b || list_any (λ u. u == 13) us) ≡ false
    by true off more = absurd (cc)
    by false off more = more

pub zero_free : (us : List ℕ) → list_all stays us ≡ true → has_zero us ≡ false
zero_free [] e = refl
zero_free (u ∷ us) e = by (u == 0) (and_parts (not (u == 13)) _ (and_parts (stays u) _ e).0).1 (zero_free us (and_parts (stays u) _ e).1)
  where
    by : (b : Bool) → not b ≡ true → has_zero us ≡ false → (b || has_zero us) ≡ false
    by true off more = absurd (cc)
    by false off more = more

-- bytes with neither an end tag nor another control character than LF may be a script's text
pub script_bytes : (t : List ℕ) → IsUtf8 t → HasNoEndTag (utf16_of t) → list_all is_lined (utf16_of t) ≡ true → IsScriptBytes t
script_bytes t utf8 none lined =
    let kept = all_stay (utf16_of t) lined in
    record { utf8 = utf8; no_zero = zero_free (utf16_of t) kept; no_return = return_free (utf16_of t) kept; no_end = no_end_tag (utf16_of t) none }

-- ---- units of a text between others

both_scalars : (cs ds : List ℕ) → all_scalars cs ≡ true → all_scalars ds ≡ true → all_scalars (cs ++ ds) ≡ true
both_scalars [] ds e f = f
both_scalars (c ∷ cs) ds e f = and_from _ _ (and_parts _ _ e).0 (both_scalars cs ds (and_parts _ _ e).1 f)

spelt : (cs : List ℕ) → all_scalars cs ≡ true → utf16_of (encode_utf8_all cs) ≡ flat_map encode_utf16 cs
spelt cs e = ap (flat_map encode_utf16) (chars-encodes cs e)

pub units_join : (t s : List ℕ) → IsUtf8 t → IsUtf8 s → utf16_of (t ++ s) ≡ utf16_of t ++ utf16_of s
units_join t s a b =
    ap utf16_of (ap (λ (x : List ℕ). x ++ s) (sym a.1.1) ∙ ap (λ (x : List ℕ). encode_utf8_all a.0 ++ x) (sym b.1.1) ∙ sym (encodes-append a.0 b.0))
    ∙ spelt (a.0 ++ b.0) (both_scalars a.0 b.0 a.1.0 b.1.0) ∙ flat_map-append encode_utf16 a.0 b.0
    ∙ ap (λ (x : List ℕ). x ++ flat_map encode_utf16 b.0) (sym (spelt a.0 a.1.0) ∙ ap utf16_of a.1.1)
    ∙ ap (λ (x : List ℕ). utf16_of t ++ x) (sym (spelt b.0 b.1.0) ∙ ap utf16_of b.1.1)

-- ---- the frame

low_byte : (u : ℕ) → nat_lt u 128 ≡ true → u < 128
low_byte u e = grind (arith, nat_tests)

ascii_bytes : (us : List ℕ) → is_ascii_text us ≡ true → encode_utf8_all us ≡ us
ascii_bytes [] e = refl
ascii_bytes (u ∷ us) e =
    ap (λ (x : List ℕ). encode_utf8 u ++ x) (ascii_bytes us (and_parts (nat_lt u 128) _ e).1)
    ∙ ap (λ (x : List ℕ). x ++ us) (encode_ascii u (low_byte u (and_parts (nat_lt u 128) _ e).0))

-- a text of characters that are units and bytes
pub record Same (us : List ℕ) : Type 0 where
  pub utf8 : IsUtf8 us
  pub units : utf16_of us ≡ us

pub same_units : (us : List ℕ) → is_ascii_text us ≡ true → all_scalars us ≡ true → flat_map encode_utf16 us ≡ us → Same us
same_units us low scalars alone =
    let bytes = ascii_bytes us low in
    record { utf8 = (us, (scalars, bytes)); units = ap utf16_of (sym bytes) ∙ ap (flat_map encode_utf16) (chars-encodes us scalars) ∙ alone }

front_same : Same page_front
front_same = same_units page_front refl refl refl

back_same : Same page_back
back_same = same_units page_back refl refl refl

pub framed_is_utf8 : (t : List ℕ) → IsUtf8 t → IsUtf8 (framed t)
framed_is_utf8 t u =
    IsUtf8-append page_front (t ++ page_back) front_same.utf8 (IsUtf8-append t page_back u back_same.utf8)

framed_units : (t : List ℕ) → IsUtf8 t → utf16_of (framed t) ≡ framed (utf16_of t)
framed_units t u =
    units_join page_front (t ++ page_back) front_same.utf8 (IsUtf8-append t page_back u back_same.utf8)
    ∙ ap (λ (x : List ℕ). x ++ utf16_of (t ++ page_back)) front_same.units
    ∙ ap (λ (x : List ℕ). page_front ++ x) (units_join t page_back u back_same.utf8 ∙ ap (λ (x : List ℕ). utf16_of t ++ x) back_same.units)

-- what stays of the frame round units that stay
framed_stays : (us : List ℕ) → list_all stays us ≡ true → list_all stays (framed us) ≡ true
framed_stays us all = list_all-append stays us page_back ∙ and_from _ _ all refl

front_whole : (us : List ℕ) → framed us ≡ mark_text form_page_mark ++ codes "<html>" ++ body_text false ++ codes "<script>" ++ us ++ codes "</script></html>"
front_whole us = refl

-- the text of a form page's script, in its frame
pub is_framed : (t : List ℕ) → IsUtf8 t → HasNoEndTag (utf16_of t) → list_all is_lined (utf16_of t) ≡ true
    → IsScriptPage (with_line_feeds (utf16_of (framed t))) false (utf16_of t)
is_framed t u none lined =
    let units = utf16_of t in
    let kept = framed_stays units (all_stay units lined) in
    let same = ap with_line_feeds (framed_units t u) ∙ with_same (framed units) kept in
    record {
      mark = form_page_mark;
      whole = same ∙ front_whole units;
      no_end = no_end_tag units none;
      no_zero = ap has_zero same ∙ zero_free (framed units) kept;
    }
