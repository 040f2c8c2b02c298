-- Bytes with other texts of scripts.
use Rattle.std.proofs.Common.{◌≡◌, ◌∙◌, ℕ, ◌+◌, ◌-◌, ◌≤◌, ◌<◌, ◌==◌, ◌&&◌, ◌||◌, inl, inr, Bool, true, false, cond, List, [], ◌∷◌, ◌++◌, map, take, drop, length, refl, sym, ap, subst, append_assoc, length-append, nat_lt, arith, codes, lit<, lit≤}
use Rattle.std.proofs.Math.Seq.{drop-append_seam, take-append-add, take-append_seam}
use Rattle.std.proofs.Math.Utf8.{encode, encodes}
use Rattle.std.proofs.lemmas.List.Folds.{list_any-append}
use Rattle.std.proofs.lemmas.Str.{IsUtf8-append, IsUtf8-encode, IsUtf8-nil, chars-nil, encode_ascii, length-encode}
use Rattle.std.specs.Char.Escape.{encode_utf16}
use Rattle.std.specs.List.{flat_map, list_all, list_any}
use Rattle.std.proofs.lemmas.Bool.Decides.{nat_tests}
use Rattle.std.specs.Str.{IsUtf8}
use Rattle.std.proofs.lemmas.Bool.{and_parts, or_parts}
use Rattle.js_core.specs.Text.{Text, utf16_of}
use Rattle.dom_tree.specs.Node.{Nodes}
use Rattle.page_tokens.specs.declared.token.PageToken.{PageToken}
use Rattle.page_tokens.specs.declared.token.PageToken.TheVariants.{Comment}
use Rattle.page_tokens.specs.declared.token.RawText.{RawText}
use Rattle.page_tokens.specs.Tags.{opening_of}
use Rattle.page_tokens.specs.Tokens.{TokenAt, TokensOf}
use Rattle.page_tokens.specs.Tokens.TokenAt.{comment}
use Rattle.page_tokens.specs.Tokens.TokensOf.{more}
use Rattle.page_reader.specs.declared.page.ScriptText.{ScriptText}
use Rattle.page_reader.specs.Bytes.{IsPageOf, IsTextPage, place_of, script_of, scripts_of}
use Rattle.page_reader.specs.Pages.{IsPage, PageOf}
use Rattle.page_reader.specs.Pages.PageOf.{page}
use Rattle.page_reader.specs.Replacing.{AreScriptBytes, IsReadAs, IsScriptBytes, as_form_page, form_mark, part, places_of, replaced, replaced_from}
use Rattle.page_reader.specs.Text.{begins_with_line_feed, bytes_before, has_mark, has_zero, is_half, line_feed, mark_size, page_text, unit_size, units_behind, with_line_feeds, without_mark}
use Rattle.page_reader.proofs.Cutting.{IsPlain, cut_bytes, cut_units, feeds_half, feeds_whole, first_bytes, first_unit, same_unit, step_whole, units_append, units_of}
use Rattle.page_reader.proofs.Passing.{behind_more, behind_none, bytes_more, bytes_none}
use Rattle.page_reader.proofs.Renewing.{Renewal, page_scripts, renewed_page, scripts_in}
use Rattle.page_reader.proofs.Renewing.Renewal.{done, same, style, script}
use Rattle.page_reader.proofs.Swapping.{AreTexts, Swaps, swapped}
use Rattle.page_reader.proofs.Swapping.Swaps.{last, cut}

-- Line ends

seam_half : (u : ℕ) (a rest : Text) → is_half u ((a ++ 62 ∷ []) ++ rest) ≡ is_half u a
seam_half u [] rest = refl
seam_half u (v ∷ a) rest = refl

feeds_seam : (a rest : Text) → with_line_feeds ((a ++ 62 ∷ []) ++ rest) ≡ (with_line_feeds a ++ 62 ∷ []) ++ with_line_feeds rest
feeds_seam [] rest = refl
feeds_seam (u ∷ a) rest = by_half (is_half u a) refl (feeds_seam a rest)
  where
    by_half : (h : Bool) → is_half u a ≡ h → with_line_feeds ((a ++ 62 ∷ []) ++ rest) ≡ (with_line_feeds a ++ 62 ∷ []) ++ with_line_feeds rest → with_line_feeds (u ∷ ((a ++ 62 ∷ []) ++ rest)) ≡ (with_line_feeds (u ∷ a) ++ 62 ∷ []) ++ with_line_feeds rest
    by_half true h step = feeds_half u ((a ++ 62 ∷ []) ++ rest) (seam_half u a rest ∙ h) ∙ step ∙ ap (λ z. (z ++ 62 ∷ []) ++ with_line_feeds rest) (sym (feeds_half u a h))
    by_half false h step = feeds_whole u ((a ++ 62 ∷ []) ++ rest) (seam_half u a rest ∙ h) ∙ ap (λ z. line_feed u ∷ z) step ∙ ap (λ z. (z ++ 62 ∷ []) ++ with_line_feeds rest) (sym (feeds_whole u a h))

feeds_plain : (x rest : Text) → list_any (λ u. u == 13) x ≡ false → with_line_feeds (x ++ rest) ≡ x ++ with_line_feeds rest
feeds_plain [] rest e = refl
feeds_plain (u ∷ x) rest e =
    let p = or_parts (u == 13) (list_any (λ u. u == 13) x) e in
    let no : is_half u (x ++ rest) ≡ false = ap (λ b. b && begins_with_line_feed (x ++ rest)) p.0 in
    feeds_whole u (x ++ rest) no ∙ ap (λ b. cond b 10 u ∷ with_line_feeds (x ++ rest)) p.0 ∙ ap (λ z. u ∷ z) (feeds_plain x rest p.1)

-- U+0000

zero_parts : (a b : Text) → has_zero (a ++ b) ≡ false → (has_zero a ≡ false) × (has_zero b ≡ false)
zero_parts a b e = or_parts (has_zero a) (has_zero b) (sym (list_any-append (λ u. u == 0) a b) ∙ e)

zero_both : (a b : Text) → has_zero a ≡ false → has_zero b ≡ false → has_zero (a ++ b) ≡ false
zero_both a b e f = list_any-append (λ u. u == 0) a b ∙ ap (λ z. z || has_zero b) e ∙ f

-- Places

moved : (inner us : Text) (off n to : ℕ) → units_behind inner off ≡ us → to ≡ off + n → (bytes_before inner to ≡ bytes_before inner off + bytes_before us n) × (units_behind inner to ≡ units_behind us n)
moved inner us off n to e f =
    let le : off ≤ to = omega (arith, f) in
    let left : to - off ≡ n = omega (arith, f) in
    (sym (bytes_more inner off to le) ∙ ap (λ z. bytes_before inner off + bytes_before z (to - off)) e ∙ ap (λ k. bytes_before inner off + bytes_before us k) left, sym (behind_more inner off to le) ∙ ap (λ z. units_behind z (to - off)) e ∙ ap (units_behind us) left)

-- one more unit that is `>`
past_mark : (us rest : Text) (n : ℕ) → units_behind us n ≡ 62 ∷ rest → (bytes_before us (n + 1) ≡ bytes_before us n + 1) × (units_behind us (n + 1) ≡ rest)
past_mark us rest n e =
    let m = moved us (62 ∷ rest) n 1 (n + 1) e refl in
    let s = step_whole 62 rest 1 0 refl refl in
    let z = bytes_none rest 0 refl in
    (m.0 ∙ ap (λ k. bytes_before us n + k) (s.0 ∙ ap (λ k. unit_size 62 + k) z), m.1 ∙ s.1 ∙ behind_none rest 0 refl)

drop_front : (bytes pre b : List ℕ) (n : ℕ) → bytes ≡ pre ++ b → length pre ≡ n → drop n bytes ≡ b
drop_front bytes pre b n e l = ap (drop n) e ∙ ap (λ k. drop k (pre ++ b)) (sym l) ∙ drop-append_seam pre b

part_is : (bytes pre front rest : List ℕ) (from to : ℕ) → bytes ≡ pre ++ (front ++ rest) → length pre ≡ from → to ≡ from + length front → part bytes from to ≡ front
part_is bytes pre front rest from to e l f =
    let n : to - from ≡ length front = omega (arith, f) in
    ap (take (to - from)) (drop_front bytes pre (front ++ rest) from e l) ∙ ap (λ k. take k (front ++ rest)) n ∙ take-append_seam front rest

append_none : (xs : List ℕ) → xs ++ [] ≡ xs
append_none [] = refl
append_none (x ∷ xs) = ap (λ ys. x ∷ ys) (append_none xs)

mark_utf8 : IsUtf8 (62 ∷ [])
mark_utf8 = subst IsUtf8 (encode_ascii 62 (lit< tt)) (IsUtf8-encode 62 refl)

mark_units : utf16_of (62 ∷ []) ≡ 62 ∷ []
mark_units = ap utf16_of (sym (encode_ascii 62 (lit< tt)) ∙ sym (append_none (encode 62))) ∙ units_of (62 ∷ []) refl

-- New bytes

pub record NewBytes (new : List ℕ) (text old : Text) : Type 0 where
  pub utf8 : IsUtf8 new
  pub is_text : with_line_feeds (utf16_of new) ≡ text
  pub no_zero : has_zero (utf16_of new) ≡ false
  pub marked : has_mark (utf16_of new) ≡ has_mark old

marked_same : (a w w' : Text) → has_mark ((a ++ 62 ∷ []) ++ w) ≡ has_mark (a ++ 62 ∷ w')
marked_same [] w w' = refl
marked_same (u ∷ a) w w' = refl

-- a script's place, from the bytes before it
pub record ScriptCut (b : List ℕ) (inner : Text) (at off skipped : ℕ) (g v : Text) (raw : RawText) : Type 0 where
  pub front : List ℕ
  pub body : List ℕ
  pub rest : List ℕ
  pub front_units : Text
  pub more : Text
  pub whole : b ≡ (front ++ 62 ∷ []) ++ (body ++ rest)
  pub front_utf8 : IsUtf8 front
  pub rest_utf8 : IsUtf8 rest
  pub front_is : utf16_of front ≡ front_units
  pub front_text : with_line_feeds front_units ≡ g
  pub units : utf16_of b ≡ front_units ++ 62 ∷ more
  pub rest_text : with_line_feeds (utf16_of rest) ≡ 60 ∷ v
  pub rest_behind : utf16_of rest ≡ units_behind inner raw.end
  pub start : skipped + bytes_before inner raw.start ≡ at + (length front + 1)
  pub end : skipped + bytes_before inner raw.end ≡ (skipped + bytes_before inner raw.start) + length body
  pub rest_zero : has_zero (utf16_of b) ≡ false → has_zero (utf16_of rest) ≡ false
  pub front_zero : has_zero (utf16_of b) ≡ false → has_zero front_units ≡ false

script_cut : (b : List ℕ) (inner : Text) (at off skipped : ℕ) (g v : Text) (raw : RawText) → IsUtf8 b → utf16_of b ≡ units_behind inner off → at ≡ skipped + bytes_before inner off → with_line_feeds (utf16_of b) ≡ (g ++ 62 ∷ []) ++ (raw.text ++ 60 ∷ v) → raw.start ≡ off + (length g + 1) → raw.end ≡ raw.start + length raw.text → ScriptCut b inner at off skipped g v raw
script_cut b inner at off skipped g v raw utf8 behind place text start end =
    let tail : Text = raw.text ++ 60 ∷ v in
    let units = utf16_of b in
    let c1 = cut_units (utf16_of b) g (62 ∷ tail) (text ∙ append_assoc g (62 ∷ []) tail) in
    let f1 = first_unit c1.rest tail 62 (λ k. absurd (omega (arith, k))) c1.rest_is in
    let c2 = cut_units f1.0 raw.text (60 ∷ v) f1.2 in
    let f2 = first_unit c2.rest v 60 (λ k. absurd (omega (arith, k))) c2.rest_is in
    let k1 = cut_bytes b c1.front c1.rest 62 f1.0 utf8 f1.1 (inl (lit< tt)) c1.whole in
    let k2 = first_bytes k1.rest 62 f1.0 k1.rest_utf8 (inl (lit< tt)) (k1.rest_is ∙ f1.1) in
    let k3 = cut_bytes k2.rest c2.front c2.rest 60 f2.0 k2.utf8 f2.1 (inl (lit< tt)) (k2.rest_is ∙ c2.whole) in
    let m1 = past_mark (utf16_of b) f1.0 (length g) (c1.behind ∙ f1.1) in
    let m2 = moved inner (utf16_of b) off (length g + 1) raw.start (sym behind) start in
    let m3 = moved inner f1.0 raw.start (length raw.text) raw.end (m2.1 ∙ m1.1) end in
    let mark = encode_ascii 62 (lit< tt) in
    let front_len : length k1.front ≡ bytes_before (utf16_of b) (length g) = k1.size ∙ c1.size in
    let body_len : length k3.front ≡ bytes_before f1.0 (length raw.text) = k3.size ∙ c2.size in
    let all : utf16_of b ≡ c1.front ++ 62 ∷ f1.0 = c1.whole ∙ ap (λ z. c1.front ++ z) f1.1 in
    record {
      front = k1.front;
      body = k3.front;
      rest = k3.rest;
      front_units = c1.front;
      more = f1.0;
      whole = k1.whole ∙ ap (λ z. k1.front ++ z) (k2.whole ∙ ap (λ z. z ++ k2.rest) mark ∙ ap (λ z. (62 ∷ []) ++ z) k3.whole) ∙ sym (append_assoc k1.front (62 ∷ []) (k3.front ++ k3.rest));
      front_utf8 = k1.front_utf8;
      rest_utf8 = k3.rest_utf8;
      front_is = k1.front_is;
      front_text = c1.front_is;
      units = all;
      rest_text = ap with_line_feeds k3.rest_is ∙ c2.rest_is;
      rest_behind = k3.rest_is ∙ sym (m3.1 ∙ c2.behind);
      start = start_at skipped (bytes_before inner raw.start) (bytes_before inner off) (bytes_before (utf16_of b) (length g + 1)) (bytes_before (utf16_of b) (length g)) at (length k1.front) m2.0 m1.0 place front_len;
      end = end_at skipped (bytes_before inner raw.end) (bytes_before inner raw.start) (bytes_before f1.0 (length raw.text)) (length k3.front) m3.0 body_len;
      rest_zero = λ e.
          let p = zero_parts c1.front (62 ∷ f1.0) (sym (ap has_zero all) ∙ e) in
          let q = zero_parts (62 ∷ []) f1.0 p.1 in
          let r = zero_parts c2.front c2.rest (sym (ap has_zero c2.whole) ∙ q.1) in
          ap has_zero k3.rest_is ∙ r.1;
      front_zero = λ e. (zero_parts c1.front (62 ∷ f1.0) (sym (ap has_zero all) ∙ e)).0;
    }
  where
    start_at : (skipped start before passed to at front : ℕ) → start ≡ before + passed → passed ≡ to + 1 → at ≡ skipped + before → front ≡ to → skipped + start ≡ at + (front + 1)
    start_at skipped start before passed to at front a b c d = omega (arith, a, b, c, d)

    end_at : (skipped end start inner body : ℕ) → end ≡ start + inner → body ≡ inner → skipped + end ≡ (skipped + start) + body
    end_at skipped end start inner body a b = omega (arith, a, b)

-- the new bytes of one script and what stands before it
joined : (front y new : List ℕ) (front_units g x v : Text) (old : Text) (after : Text) → IsUtf8 front → utf16_of front ≡ front_units → with_line_feeds front_units ≡ g → has_zero front_units ≡ false → IsScriptBytes y → utf16_of y ≡ x → NewBytes new v old → (whole : Text) → whole ≡ front_units ++ 62 ∷ after → NewBytes ((front ++ 62 ∷ []) ++ (y ++ new)) ((g ++ 62 ∷ []) ++ (x ++ v)) whole
joined front y new front_units g x v old after utf8 is text zero calm x_is n whole w =
    let open_utf8 = IsUtf8-append front (62 ∷ []) utf8 mark_utf8 in
    let open_units : utf16_of (front ++ 62 ∷ []) ≡ front_units ++ 62 ∷ [] = units_append front (62 ∷ []) utf8 ∙ ap (λ z. z ++ utf16_of (62 ∷ [])) is ∙ ap (λ z. front_units ++ z) mark_units in
    let tail_units : utf16_of (y ++ new) ≡ x ++ utf16_of new = units_append y new calm.utf8 ∙ ap (λ z. z ++ utf16_of new) x_is in
    let units : utf16_of ((front ++ 62 ∷ []) ++ (y ++ new)) ≡ (front_units ++ 62 ∷ []) ++ (x ++ utf16_of new) = units_append (front ++ 62 ∷ []) (y ++ new) open_utf8 ∙ ap (λ z. z ++ utf16_of (y ++ new)) open_units ∙ ap (λ z. (front_units ++ 62 ∷ []) ++ z) tail_units in
    let no_return = sym (ap (list_any (λ u. u == 13)) x_is) ∙ calm.no_return in
    let x_zero : has_zero x ≡ false = sym (ap has_zero x_is) ∙ calm.no_zero in
    record {
      utf8 = IsUtf8-append (front ++ 62 ∷ []) (y ++ new) open_utf8 (IsUtf8-append y new calm.utf8 n.utf8);
      is_text = ap with_line_feeds units ∙ feeds_seam front_units (x ++ utf16_of new) ∙ ap (λ z. (z ++ 62 ∷ []) ++ with_line_feeds (x ++ utf16_of new)) text ∙ ap (λ z. (g ++ 62 ∷ []) ++ z) (feeds_plain x (utf16_of new) no_return ∙ ap (λ z. x ++ z) n.is_text);
      no_zero = ap has_zero units ∙ zero_both (front_units ++ 62 ∷ []) (x ++ utf16_of new) (zero_both front_units (62 ∷ []) zero refl) (zero_both x (utf16_of new) x_zero n.no_zero);
      marked = ap has_mark units ∙ marked_same front_units (x ++ utf16_of new) after ∙ sym (ap has_mark w);
    }

pub swap_bytes : (off : ℕ) (us us' : Text) (raws : List RawText) (xs : List Text) → Swaps off us raws xs us' → (bytes pre b : List ℕ) (skipped : ℕ) (inner : Text) (at : ℕ) (texts : List (List ℕ)) → bytes ≡ pre ++ b → length pre ≡ at → IsUtf8 b → utf16_of b ≡ units_behind inner off → at ≡ skipped + bytes_before inner off → with_line_feeds (utf16_of b) ≡ us → has_zero (utf16_of b) ≡ false → AreScriptBytes (map (script_of skipped inner) raws) texts → map utf16_of texts ≡ xs → NewBytes (replaced_from at bytes (map (place_of skipped inner) raws) texts) us' (utf16_of b)
swap_bytes off us us' raws xs (last o vs) bytes pre b skipped inner at texts e l utf8 behind place text zero are m =
    rw (drop_front bytes pre b at e l) (record { utf8 = utf8; is_text = text; no_zero = zero; marked = refl })
swap_bytes off us us' raws xs (cut o vs vs' g v v' x raw rs ys f f' s t h) bytes pre b skipped inner at [] e l utf8 behind place text zero are m = absurd are
swap_bytes off us us' raws xs (cut o vs vs' g v v' x raw rs ys f f' s t h) bytes pre b skipped inner at (y ∷ texts) e l utf8 behind place text zero are m =
    let c = script_cut b inner at o skipped g v raw utf8 behind place (text ∙ f) s t in
    let start : ℕ = skipped + bytes_before inner raw.start in
    let end : ℕ = skipped + bytes_before inner raw.end in
    let open_ : List ℕ = c.front ++ 62 ∷ [] in
    let before : List ℕ = pre ++ (open_ ++ c.body) in
    let open_len : length open_ ≡ length c.front + 1 = length-append c.front (62 ∷ []) in
    let both_len = length-append open_ c.body in
    let before_len = length-append pre (open_ ++ c.body) in
    let bytes_are : bytes ≡ pre ++ (open_ ++ (c.body ++ c.rest)) = e ∙ ap (λ z. pre ++ z) c.whole in
    let bytes_behind : bytes ≡ before ++ c.rest = bytes_are ∙ ap (λ z. pre ++ z) (sym (append_assoc open_ c.body c.rest)) ∙ sym (append_assoc pre (open_ ++ c.body) c.rest) in
    let front_is : part bytes at start ≡ open_ = part_is bytes pre open_ (c.body ++ c.rest) at start bytes_are l (omega (arith, c.start, open_len)) in
    let first : utf16_of y ≡ x = cc in
    let others : map utf16_of texts ≡ ys = cc in
    let next = swap_bytes raw.end (60 ∷ v) (60 ∷ v') rs ys h bytes before c.rest skipped inner end texts bytes_behind (omega (arith, c.start, c.end, open_len, both_len, before_len, l)) c.rest_utf8 c.rest_behind refl c.rest_text (c.rest_zero zero) are.1 others in
    let new = joined c.front y (replaced_from end bytes (map (place_of skipped inner) rs) texts) c.front_units g x (60 ∷ v') (utf16_of c.rest) c.more c.front_utf8 c.front_is c.front_text (c.front_zero zero) are.0 first next (utf16_of b) c.units in
    subst (λ z. NewBytes z vs' (utf16_of b)) (ap (λ z. z ++ (y ++ replaced_from end bytes (map (place_of skipped inner) rs) texts)) (sym front_is)) (subst (λ z. NewBytes (open_ ++ (y ++ replaced_from end bytes (map (place_of skipped inner) rs) texts)) z (utf16_of b)) (sym f') new)

-- Whole pages

-- the bytes of a byte order mark, where there is one, and what stands behind them
record Marked (bytes : List ℕ) (inner : Text) (skipped : ℕ) : Type 0 where
  mark : List ℕ
  mark_text : Text
  b : List ℕ
  whole : bytes ≡ mark ++ b
  size : length mark ≡ skipped
  mark_utf8 : IsUtf8 mark
  mark_units : utf16_of mark ≡ mark_text
  utf8 : IsUtf8 b
  units : utf16_of b ≡ inner
  again : (us : Text) → has_mark us ≡ has_mark inner → without_mark (mark_text ++ us) ≡ us
  no_zero : has_zero (utf16_of bytes) ≡ false → (has_zero mark_text ≡ false) × (has_zero inner ≡ false)

unmarked : (us : Text) → has_mark us ≡ false → without_mark us ≡ us
unmarked us e = ap (λ b. cond b (drop 1 us) us) e

mark_first : (us : Text) → has_mark us ≡ true → (us ≡ 65279 ∷ without_mark us) × (mark_size us ≡ 3)
mark_first [] e = absurd (cc)
mark_first (u ∷ us) e = (ap (λ z. z ∷ us) (same_unit u 65279 e) ∙ ap (λ z. 65279 ∷ z) (sym (ap (λ b. cond b us (u ∷ us)) e)), ap (λ b. cond b 3 0) e)

plain_mark : IsPlain 65279
plain_mark = inr (lit≤ tt)

with_mark : (bytes : List ℕ) → IsUtf8 bytes → has_mark (utf16_of bytes) ≡ true → Marked bytes (without_mark (utf16_of bytes)) (mark_size (utf16_of bytes))
with_mark bytes u e =
    let m = mark_first (utf16_of bytes) e in
    let f = first_bytes bytes 65279 (without_mark (utf16_of bytes)) u plain_mark m.0 in
    let units : utf16_of (encode 65279) ≡ 65279 ∷ [] = ap utf16_of (sym (append_none (encode 65279))) ∙ units_of (65279 ∷ []) refl in
    record {
      mark = encode 65279;
      mark_text = 65279 ∷ [];
      b = f.rest;
      whole = f.whole;
      size = length-encode 65279 ∙ sym m.1;
      mark_utf8 = IsUtf8-encode 65279 refl;
      mark_units = units;
      utf8 = f.utf8;
      units = f.rest_is;
      again = λ us h. refl;
      no_zero = λ z. zero_parts (65279 ∷ []) (without_mark (utf16_of bytes)) (sym (ap has_zero m.0) ∙ z);
    }

without : (bytes : List ℕ) → IsUtf8 bytes → has_mark (utf16_of bytes) ≡ false → Marked bytes (without_mark (utf16_of bytes)) (mark_size (utf16_of bytes))
without bytes u e =
    let same = unmarked (utf16_of bytes) e in
    record {
      mark = [];
      mark_text = [];
      b = bytes;
      whole = refl;
      size = sym (ap (λ b. cond b 3 0) e);
      mark_utf8 = IsUtf8-nil;
      mark_units = ap (flat_map encode_utf16) chars-nil;
      utf8 = u;
      units = sym same;
      again = λ us h. unmarked us (h ∙ ap has_mark same ∙ e);
      no_zero = λ z. (refl, ap has_zero same ∙ z);
    }

marked_of : (bytes : List ℕ) → IsUtf8 bytes → Marked bytes (without_mark (utf16_of bytes)) (mark_size (utf16_of bytes))
marked_of bytes u = by_mark (has_mark (utf16_of bytes)) refl
  where
    by_mark : (b : Bool) → has_mark (utf16_of bytes) ≡ b → Marked bytes (without_mark (utf16_of bytes)) (mark_size (utf16_of bytes))
    by_mark true e = with_mark bytes u e
    by_mark false e = without bytes u e

are_texts : (skipped : ℕ) (inner : Text) (raws : List RawText) (texts : List (List ℕ)) → AreScriptBytes (map (script_of skipped inner) raws) texts → AreTexts raws (map utf16_of texts)
are_texts skipped inner [] [] h = tt
are_texts skipped inner [] (t ∷ ts) h = absurd h
are_texts skipped inner (r ∷ rs) [] h = absurd h
are_texts skipped inner (r ∷ rs) (t ∷ ts) h = (h.0.no_end, are_texts skipped inner rs ts h.1)

renewal_texts : (ts ts' : List PageToken) (xs : List Text) (rs : List RawText) → Renewal ts xs ts' rs → map (λ r. r.text) rs ≡ xs
renewal_texts ts ts' xs rs done = refl
renewal_texts ts ts' xs rs (same t us us' ys qs r h) = renewal_texts us us' ys qs h
renewal_texts ts ts' xs rs (style tag raw raw' us us' ys qs s f h) = renewal_texts us us' ys qs h
renewal_texts ts ts' xs rs (script tag raw raw' us us' y ys qs s f h) = ap (λ z. z ∷ map (λ r. r.text) qs) f ∙ ap (λ z. y ∷ z) (renewal_texts us us' ys qs h)

pub script_texts : (skipped : ℕ) (inner : Text) (rs : List RawText) → map (λ s. s.text) (map (script_of skipped inner) rs) ≡ map (λ r. r.text) rs
script_texts skipped inner [] = refl
script_texts skipped inner (r ∷ rs) = ap (λ z. r.text ∷ z) (script_texts skipped inner rs)

raw_places : (skipped : ℕ) (inner : Text) (rs : List RawText) → places_of (map (script_of skipped inner) rs) ≡ map (place_of skipped inner) rs
raw_places skipped inner [] = refl
raw_places skipped inner (r ∷ rs) = ap (λ z. place_of skipped inner r ∷ z) (raw_places skipped inner rs)

-- going on from behind the mark
from_mark : (bytes mark b : List ℕ) (skipped : ℕ) (inner : Text) (raws : List RawText) (texts : List (List ℕ)) → bytes ≡ mark ++ b → length mark ≡ skipped → AreScriptBytes (map (script_of skipped inner) raws) texts → replaced_from 0 bytes (map (place_of skipped inner) raws) texts ≡ mark ++ replaced_from skipped bytes (map (place_of skipped inner) raws) texts
from_mark bytes mark b skipped inner [] [] e l h = e ∙ ap (λ z. mark ++ z) (sym (drop_front bytes mark b skipped e l))
from_mark bytes mark b skipped inner [] (t ∷ ts) e l h = absurd h
from_mark bytes mark b skipped inner (r ∷ rs) [] e l h = absurd h
from_mark bytes mark b skipped inner (r ∷ rs) (t ∷ ts) e l h =
    let k : ℕ = bytes_before inner r.start in
    let rest : List ℕ = t ++ replaced_from (skipped + bytes_before inner r.end) bytes (map (place_of skipped inner) rs) ts in
    let all : (skipped + k) - 0 ≡ length mark + k = omega (arith, l) in
    let left : (skipped + k) - skipped ≡ k = omega arith in
    let first : part bytes 0 (skipped + k) ≡ mark ++ take k b = ap (take ((skipped + k) - 0)) e ∙ ap (λ n. take n (mark ++ b)) all ∙ take-append-add mark b k in
    let second : part bytes skipped (skipped + k) ≡ take k b = ap (take ((skipped + k) - skipped)) (drop_front bytes mark b skipped e l) ∙ ap (λ n. take n b) left in
    ap (λ z. z ++ rest) (first ∙ ap (λ z. mark ++ z) (sym second)) ∙ append_assoc mark (part bytes skipped (skipped + k)) rest

-- a text with the tokens of a page with these nodes and texts of scripts, whatever its size is said to be
record IsNewText (nodes : Nodes) (xs : List Text) (text : Text) (size : ℕ) : Type 0 where
  tokens : List PageToken
  raws : List RawText
  reads : TokensOf size text tokens
  is_page : PageOf tokens nodes raws
  texts_are : map (λ r. r.text) raws ≡ xs

-- the new bytes behind a byte order mark, and their text
record NewPage (bytes : List ℕ) (nodes : Nodes) (scripts : List ScriptText) (texts : List (List ℕ)) : Type 0 where
  text : Text
  is_new : (size : ℕ) → IsNewText nodes (map utf16_of texts) text size
  marked : Marked bytes (without_mark (utf16_of bytes)) (mark_size (utf16_of bytes))
  tail : List ℕ
  whole : replaced bytes (places_of scripts) texts ≡ marked.mark ++ tail
  behind_mark : replaced_from (mark_size (utf16_of bytes)) bytes (places_of scripts) texts ≡ tail
  new : NewBytes tail text (without_mark (utf16_of bytes))

new_page : (bytes : List ℕ) (nodes : Nodes) (scripts : List ScriptText) (texts : List (List ℕ)) → IsPageOf bytes nodes scripts → AreScriptBytes scripts texts → NewPage bytes nodes scripts texts
new_page bytes nodes scripts texts p are =
    let units = utf16_of bytes in
    let inner = without_mark units in
    let skipped = mark_size units in
    let raws = p.units.raws in
    let all = p.units.text in
    let t = page_text units in
    let xs = map utf16_of texts in
    let placed = subst (λ z. AreScriptBytes z texts) p.units.placed are in
    let where_ : places_of scripts ≡ map (place_of skipped inner) raws = ap places_of p.units.placed ∙ raw_places skipped inner raws in
    let among = page_scripts all.tokens nodes raws all.is_page in
    let calm = are_texts skipped inner raws texts placed in
    let sw = swapped (length t) t all.tokens all.reads xs (omega arith) (subst (λ z. AreTexts z xs) (sym among) calm) in
    let zero : length t - length t ≡ 0 = omega arith in
    let swaps = subst (λ z. Swaps 0 t z xs sw.text) among (subst (λ z. Swaps z t (scripts_in all.tokens) xs sw.text) zero sw.swaps) in
    let m = marked_of bytes p.utf8 in
    let start : skipped ≡ skipped + bytes_before inner 0 = let z = bytes_none inner 0 refl in omega (arith, z) in
    let calm_units : has_zero (utf16_of m.b) ≡ false = ap has_zero m.units ∙ (m.no_zero p.units.no_zero).1 in
    let n = swap_bytes 0 t sw.text raws xs swaps bytes m.mark m.b skipped inner skipped texts m.whole m.size m.utf8 (m.units ∙ sym (behind_none inner 0 refl)) start (ap with_line_feeds m.units) calm_units placed refl in
    record {
      text = sw.text;
      is_new = λ size. let k = sw.tokened size in record { tokens = k.tokens; raws = k.scripts; reads = k.reads; is_page = renewed_page all.tokens nodes raws xs k.tokens k.scripts all.is_page k.renewal; texts_are = renewal_texts all.tokens k.tokens xs k.scripts k.renewal };
      marked = m;
      tail = replaced_from skipped bytes (map (place_of skipped inner) raws) texts;
      whole = ap (λ z. replaced_from 0 bytes z texts) where_ ∙ from_mark bytes m.mark m.b skipped inner raws texts m.whole m.size placed;
      behind_mark = ap (λ z. replaced_from skipped bytes z texts) where_;
      new = subst (NewBytes (replaced_from skipped bytes (map (place_of skipped inner) raws) texts) sw.text) m.units n;
    }

pub replaced_read : (bytes : List ℕ) (nodes : Nodes) (scripts : List ScriptText) (texts : List (List ℕ)) → IsPageOf bytes nodes scripts → AreScriptBytes scripts texts → IsReadAs (replaced bytes (places_of scripts) texts) nodes (map utf16_of texts)
replaced_read bytes nodes scripts texts p are =
    let n = new_page bytes nodes scripts texts p are in
    let m = n.marked in
    let w = n.new in
    let k = n.is_new (length n.text) in
    let units : utf16_of (m.mark ++ n.tail) ≡ m.mark_text ++ utf16_of n.tail = units_append m.mark n.tail m.mark_utf8 ∙ ap (λ z. z ++ utf16_of n.tail) m.mark_units in
    let text : page_text (utf16_of (m.mark ++ n.tail)) ≡ n.text = ap page_text units ∙ ap with_line_feeds (m.again (utf16_of n.tail) w.marked) ∙ w.is_text in
    let zero : has_zero (utf16_of (m.mark ++ n.tail)) ≡ false = ap has_zero units ∙ zero_both m.mark_text (utf16_of n.tail) (m.no_zero p.units.no_zero).0 w.no_zero in
    let here : IsTextPage n.text nodes k.raws = record { tokens = k.tokens; reads = k.reads; is_page = k.is_page } in
    let page : IsPageOf (m.mark ++ n.tail) nodes (scripts_of (utf16_of (m.mark ++ n.tail)) k.raws) = record {
      utf8 = IsUtf8-append m.mark n.tail m.mark_utf8 w.utf8;
      units = record { raws = k.raws; no_zero = zero; text = subst (λ z. IsTextPage z nodes k.raws) (sym text) here; placed = refl };
    } in
    subst (λ z. IsReadAs z nodes (map utf16_of texts)) (sym n.whole) (record { scripts = scripts_of (utf16_of (m.mark ++ n.tail)) k.raws; page = page; texts_are = script_texts (mark_size (utf16_of (m.mark ++ n.tail))) (without_mark (utf16_of (m.mark ++ n.tail))) k.raws ∙ k.texts_are })

-- Behind the mark of a form page

ascii_encodes : (cs : List ℕ) → list_all (λ c. nat_lt c 128) cs ≡ true → encodes cs ≡ cs
ascii_encodes [] e = refl
ascii_encodes (c ∷ cs) e =
    let p = and_parts (nat_lt c 128) (list_all (λ x. nat_lt x 128) cs) e in
    ap (λ z. z ++ encodes cs) (encode_ascii c (below c p.0)) ∙ ap (λ z. c ∷ z) (ascii_encodes cs p.1)
  where
    below : (c : ℕ) → nat_lt c 128 ≡ true → c < 128
    below c f = grind (arith, nat_tests)

form_encodes : encodes form_mark ≡ form_mark
form_encodes = ascii_encodes form_mark refl

form_utf8 : IsUtf8 form_mark
form_utf8 = (form_mark, (refl, form_encodes))

form_units : utf16_of form_mark ≡ form_mark
form_units = ap utf16_of (sym form_encodes) ∙ units_of form_mark refl

form_text : (us : Text) → page_text (form_mark ++ us) ≡ form_mark ++ with_line_feeds us
form_text us = refl

pub form_token : (size : ℕ) (us : Text) → TokenAt size (form_mark ++ us) us (Comment (codes "imagen 1"))
unfolding opening_of
form_token size us = comment (form_mark ++ us) (codes "imagen 1") us refl refl

pub commented : (v : Text) (ts : List PageToken) (nodes : Nodes) (raws : List RawText) → PageOf ts nodes raws → PageOf (Comment v ∷ ts) nodes raws
commented v ts nodes raws (page us tag f s read) =
    let read' : IsPage (Comment v ∷ us) tag f s = record {
      content = read.content;
      behind = read.behind;
      begins = read.begins;
      named = read.named;
      allowed = read.allowed;
      reads = read.reads;
      ends = read.ends;
    } in
    page (Comment v ∷ us) tag f s read'

pub form_read : (bytes : List ℕ) (nodes : Nodes) (scripts : List ScriptText) (texts : List (List ℕ)) → IsPageOf bytes nodes scripts → AreScriptBytes scripts texts → IsReadAs (as_form_page bytes (places_of scripts) texts) nodes (map utf16_of texts)
form_read bytes nodes scripts texts p are =
    let n = new_page bytes nodes scripts texts p are in
    let w = n.new in
    let tail = n.behind_mark in
    let new : List ℕ = form_mark ++ n.tail in
    let units : utf16_of new ≡ form_mark ++ utf16_of n.tail = units_append form_mark n.tail form_utf8 ∙ ap (λ z. z ++ utf16_of n.tail) form_units in
    let text : page_text (utf16_of new) ≡ form_mark ++ n.text = ap page_text units ∙ form_text (utf16_of n.tail) ∙ ap (λ z. form_mark ++ z) w.is_text in
    let zero : has_zero (utf16_of new) ≡ false = ap has_zero units ∙ zero_both form_mark (utf16_of n.tail) refl w.no_zero in
    let size : ℕ = length (form_mark ++ n.text) in
    let k = n.is_new size in
    let here : IsTextPage (form_mark ++ n.text) nodes k.raws = record { tokens = Comment (codes "imagen 1") ∷ k.tokens; reads = more (form_mark ++ n.text) n.text (Comment (codes "imagen 1")) k.tokens (form_token size n.text) k.reads; is_page = commented (codes "imagen 1") k.tokens nodes k.raws k.is_page } in
    let page' : IsPageOf new nodes (scripts_of (utf16_of new) k.raws) = record {
      utf8 = IsUtf8-append form_mark n.tail form_utf8 w.utf8;
      units = record { raws = k.raws; no_zero = zero; text = subst (λ z. IsTextPage z nodes k.raws) (sym text) here; placed = refl };
    } in
    subst (λ z. IsReadAs (form_mark ++ z) nodes (map utf16_of texts)) (sym tail) (record { scripts = scripts_of (utf16_of new) k.raws; page = page'; texts_are = script_texts (mark_size (utf16_of new)) (without_mark (utf16_of new)) k.raws ∙ k.texts_are })
