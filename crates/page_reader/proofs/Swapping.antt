-- A text with other texts of scripts.
use Rattle.std.proofs.Common.{◌≡◌, ◌∙◌, ℕ, ◌+◌, ◌-◌, ◌≤◌, ◌||◌, Bool, true, false, cond, List, [], ◌∷◌, ◌++◌, length, refl, sym, ap, subst, append_assoc, length-append, arith, codes}
use Rattle.std.proofs.lemmas.Slice.Eq.{bytes_eq-Decides}
use Rattle.js_core.specs.Text.{Text}
use Rattle.page_tokens.specs.declared.token.PageToken.{PageToken}
use Rattle.page_tokens.specs.declared.token.PageToken.TheVariants.{Comment, Doctype, EndTag, Raw, Space, StartTag}
use Rattle.page_tokens.specs.declared.token.PageToken.TheVariants as token
use Rattle.page_tokens.specs.declared.token.RawText.{RawText}
use Rattle.page_tokens.specs.declared.token.Tag.{Tag}
use Rattle.page_tokens.specs.Laws.{ends_itself, has_end_tag, opens_markup}
use Rattle.page_tokens.specs.Tokens.{TokenAt, TokensOf, placed}
use Rattle.page_tokens.specs.Tokens.TokensOf.{none, more}
use Rattle.page_tokens.proofs.Callers.{NoEnd, RawMovesAt, is_raw, moves_at, no_end, raw_moves_at}
use Rattle.page_reader.specs.Elements.{is_script}
use Rattle.page_reader.proofs.Renewing.{Renewal, scripts_in}
use Rattle.page_reader.proofs.Renewing.Renewal.{done, same, style, script}

-- a text, the scripts that stand in it from a place on, a text for each of them, and the text with these: each script stands
-- between `>` and `<`
pub data Swaps : ℕ → Text → List RawText → List Text → Text → Type 0 where
  last : (off : ℕ) (us : Text) → Swaps off us [] [] us
  cut : (off : ℕ) (us us' g v v' x : Text) (raw : RawText) (raws : List RawText) (xs : List Text) → us ≡ (g ++ 62 ∷ []) ++ (raw.text ++ 60 ∷ v) → us' ≡ (g ++ 62 ∷ []) ++ (x ++ 60 ∷ v') → raw.start ≡ off + (length g + 1) → raw.end ≡ raw.start + length raw.text → Swaps raw.end (60 ∷ v) raws xs (60 ∷ v') → Swaps off us (raw ∷ raws) (x ∷ xs) us'

pub swaps_behind : (off before : ℕ) (p us us' : Text) (raws : List RawText) (xs : List Text) → off ≡ before + length p → Swaps off us raws xs us' → Swaps before (p ++ us) raws xs (p ++ us')
swaps_behind off before p us us' raws xs e (last o vs) = last before (p ++ vs)
swaps_behind off before p us us' raws xs e (cut o vs vs' g v v' x raw rs ys f f' s t h) =
    let with_front : (w : Text) → p ++ ((g ++ 62 ∷ []) ++ w) ≡ ((p ++ g) ++ 62 ∷ []) ++ w = λ w. sym (append_assoc p (g ++ 62 ∷ []) w) ∙ ap (λ z. z ++ w) (sym (append_assoc p g (62 ∷ []))) in
    let len = length-append p g in
    cut before (p ++ vs) (p ++ vs') (p ++ g) v v' x raw rs ys (ap (λ z. p ++ z) f ∙ with_front (raw.text ++ 60 ∷ v)) (ap (λ z. p ++ z) f' ∙ with_front (x ++ 60 ∷ v')) (omega (arith, s, e, len)) t h

-- where the first text opens markup or is empty, so does the second
markup_same : (g w w' : Text) → opens_markup ((g ++ 62 ∷ []) ++ w) ≡ opens_markup ((g ++ 62 ∷ []) ++ w')
markup_same [] w w' = refl
markup_same (u ∷ g) w w' = refl

swaps_markup : (off : ℕ) (us us' : Text) (raws : List RawText) (xs : List Text) → Swaps off us raws xs us' → opens_markup us ≡ opens_markup us'
swaps_markup off us us' raws xs (last o vs) = refl
swaps_markup off us us' raws xs (cut o vs vs' g v v' x raw rs ys f f' s t h) = ap opens_markup f ∙ markup_same g (raw.text ++ 60 ∷ v) (x ++ 60 ∷ v') ∙ sym (ap opens_markup f')

-- a text for each script
abbrev pub AreTexts : List RawText → List Text → Type 0
AreTexts [] [] = Unit {0}
AreTexts (r ∷ rs) (x ∷ xs) = (has_end_tag (codes "script") x ≡ false) × AreTexts rs xs
AreTexts [] (x ∷ xs) = ⊥
AreTexts (r ∷ rs) [] = ⊥

pub record Tokened (size : ℕ) (ts : List PageToken) (xs : List Text) (us' : Text) : Type 0 where
  pub tokens : List PageToken
  pub scripts : List RawText
  pub reads : TokensOf size us' tokens
  pub renewal : Renewal ts xs tokens scripts

pub record Swapped (size : ℕ) (us : Text) (ts : List PageToken) (xs : List Text) : Type 0 where
  pub text : Text
  pub swaps : Swaps (size - length us) us (scripts_in ts) xs text
  pub tokened : (other : ℕ) → Tokened other ts xs text

behind_front : (size : ℕ) (us front rest : Text) → us ≡ front ++ rest → length us ≤ size → size - length rest ≡ (size - length us) + length front
behind_front size us front rest e h = let l = ap length e ∙ length-append front rest in omega (arith, l, h)

behind_short : (size : ℕ) (us front rest : Text) → us ≡ front ++ rest → length us ≤ size → length rest ≤ size
behind_short size us front rest e h = let l = ap length e ∙ length-append front rest in omega (arith, l, h)

is_script_name : (name : Text) → is_script name ≡ true → name ≡ codes "script"
is_script_name name e = (bytes_eq-Decides name (codes "script")).0 e

no_texts : (xs : List Text) → AreTexts [] xs → xs ≡ []
no_texts [] h = refl
no_texts (x ∷ xs) h = absurd h

-- a token that is no raw text
plain_swap : (size : ℕ) (us rest : Text) (t : PageToken) (os : List PageToken) (xs : List Text) → length us ≤ size → is_raw t ≡ false → scripts_in (t ∷ os) ≡ scripts_in os → TokenAt size us rest t → (AreTexts (scripts_in os) xs → length rest ≤ size → Swapped size rest os xs) → AreTexts (scripts_in (t ∷ os)) xs → Swapped size us (t ∷ os) xs
plain_swap size us rest t os xs h r s at step are =
    let m = moves_at size us rest t r at in
    let w = step (subst (λ z. AreTexts z xs) s are) (behind_short size us m.front rest m.is_front h) in
    let swaps = swaps_behind (size - length rest) (size - length us) m.front rest w.text (scripts_in os) xs (behind_front size us m.front rest m.is_front h) w.swaps in
    let ends = ap (λ z. ends_itself t || z) (sym (swaps_markup (size - length rest) rest w.text (scripts_in os) xs w.swaps)) ∙ m.ends in
    record {
      text = m.front ++ w.text;
      swaps = subst (λ z. Swaps (size - length us) us z xs (m.front ++ w.text)) (sym s) (subst (λ z. Swaps (size - length us) z (scripts_in os) xs (m.front ++ w.text)) (sym m.is_front) swaps);
      tokened = λ other. let k = w.tokened other in record {
        tokens = t ∷ k.tokens;
        scripts = k.scripts;
        reads = more (m.front ++ w.text) w.text t k.tokens (m.moves other w.text ends) k.reads;
        renewal = same t os k.tokens xs k.scripts r k.renewal;
      };
    }

-- an element with raw text that is no script
style_swap : (size : ℕ) (us rest : Text) (tag : Tag) (raw : RawText) (os : List PageToken) (xs : List Text) → length us ≤ size → is_script tag.name ≡ false → RawMovesAt size us rest tag raw → (AreTexts (scripts_in os) xs → length rest ≤ size → Swapped size rest os xs) → AreTexts (scripts_in (Raw tag raw ∷ os)) xs → Swapped size us (Raw tag raw ∷ os) xs
style_swap size us rest tag raw os xs h e r step are =
    let s : scripts_in (Raw tag raw ∷ os) ≡ scripts_in os = ap (λ b. cond b (raw ∷ scripts_in os) (scripts_in os)) e in
    let front : Text = (r.opens ++ 62 ∷ []) ++ (raw.text ++ 60 ∷ r.mark) in
    let with_rest : (z : Text) → front ++ z ≡ (r.opens ++ 62 ∷ []) ++ (raw.text ++ ((60 ∷ r.mark) ++ z)) = λ z. append_assoc (r.opens ++ 62 ∷ []) (raw.text ++ 60 ∷ r.mark) z ∙ ap (λ y. (r.opens ++ 62 ∷ []) ++ y) (append_assoc raw.text (60 ∷ r.mark) z) in
    let is_front : us ≡ front ++ rest = r.whole ∙ sym (with_rest rest) in
    let w = step (subst (λ z. AreTexts z xs) s are) (behind_short size us front rest is_front h) in
    let swaps = swaps_behind (size - length rest) (size - length us) front rest w.text (scripts_in os) xs (behind_front size us front rest is_front h) w.swaps in
    record {
      text = front ++ w.text;
      swaps = subst (λ z. Swaps (size - length us) us z xs (front ++ w.text)) (sym s) (subst (λ z. Swaps (size - length us) z (scripts_in os) xs (front ++ w.text)) (sym is_front) swaps);
      tokened = λ other.
          let k = w.tokened other in
          let raw' : RawText = placed other (raw.text ++ ((60 ∷ r.mark) ++ w.text)) raw.text in
          record {
            tokens = Raw tag raw' ∷ k.tokens;
            scripts = k.scripts;
            reads = more (front ++ w.text) w.text (Raw tag raw') k.tokens (subst (λ z. TokenAt other z w.text (Raw tag raw')) (sym (with_rest w.text)) (r.moves other raw.text w.text (r.nowhere w.text))) k.reads;
            renewal = style tag raw raw' os k.tokens xs k.scripts e refl k.renewal;
          };
    }

-- a script
script_swap : (size : ℕ) (us rest : Text) (tag : Tag) (raw : RawText) (os : List PageToken) (x : Text) (xs : List Text) → length us ≤ size → is_script tag.name ≡ true → RawMovesAt size us rest tag raw → (length rest ≤ size → Swapped size rest os xs) → has_end_tag (codes "script") x ≡ false → Swapped size us (Raw tag raw ∷ os) (x ∷ xs)
script_swap size us rest tag raw os x xs h e r step ends =
    let s : scripts_in (Raw tag raw ∷ os) ≡ raw ∷ scripts_in os = ap (λ b. cond b (raw ∷ scripts_in os) (scripts_in os)) e in
    let front : Text = (r.opens ++ 62 ∷ []) ++ (raw.text ++ 60 ∷ r.mark) in
    let with_rest : (z : Text) → front ++ z ≡ (r.opens ++ 62 ∷ []) ++ (raw.text ++ ((60 ∷ r.mark) ++ z)) = λ z. append_assoc (r.opens ++ 62 ∷ []) (raw.text ++ 60 ∷ r.mark) z ∙ ap (λ y. (r.opens ++ 62 ∷ []) ++ y) (append_assoc raw.text (60 ∷ r.mark) z) in
    let is_front : us ≡ front ++ rest = r.whole ∙ sym (with_rest rest) in
    let w = step (behind_short size us front rest is_front h) in
    let tail : Text = raw.text ++ ((60 ∷ r.mark) ++ rest) in
    let us_len = ap length r.whole ∙ length-append (r.opens ++ 62 ∷ []) tail in
    let open_len = length-append r.opens (62 ∷ []) in
    let tail_len = length-append raw.text ((60 ∷ r.mark) ++ rest) in
    let mark_len = length-append (60 ∷ r.mark) rest in
    let start : raw.start ≡ (size - length us) + (length r.opens + 1) = start_at size (length us) (length r.opens) (length (r.opens ++ 62 ∷ [])) (length tail) raw.start r.start us_len open_len h in
    let behind : size - length rest ≡ raw.end + length (60 ∷ r.mark) = end_at size (length us) (length (r.opens ++ 62 ∷ [])) (length tail) (length raw.text) (length ((60 ∷ r.mark) ++ rest)) (length (60 ∷ r.mark)) (length rest) raw.start raw.end r.start r.end us_len tail_len mark_len h in
    let inner = swaps_behind (size - length rest) raw.end (60 ∷ r.mark) rest w.text (scripts_in os) xs behind w.swaps in
    let us' : Text = (r.opens ++ 62 ∷ []) ++ (x ++ ((60 ∷ r.mark) ++ w.text)) in
    let no = no_end (codes "script") x r.mark w.text refl ends in
    record {
      text = us';
      swaps = subst (λ z. Swaps (size - length us) us z (x ∷ xs) us') (sym s) (cut (size - length us) us us' r.opens (r.mark ++ rest) (r.mark ++ w.text) x raw (scripts_in os) xs r.whole refl start r.end inner);
      tokened = λ other.
          let k = w.tokened other in
          let raw' : RawText = placed other (x ++ ((60 ∷ r.mark) ++ w.text)) x in
          record {
            tokens = Raw tag raw' ∷ k.tokens;
            scripts = raw' ∷ k.scripts;
            reads = more us' w.text (Raw tag raw') k.tokens (r.moves other x w.text (subst (λ z. NoEnd z x ((60 ∷ r.mark) ++ w.text)) (sym (is_script_name tag.name e)) no)) k.reads;
            renewal = script tag raw raw' os k.tokens x xs k.scripts e refl k.renewal;
          };
    }
  where
    start_at : (size us opens open_ tail start : ℕ) → start ≡ size - tail → us ≡ open_ + tail → open_ ≡ opens + 1 → us ≤ size → start ≡ (size - us) + (opens + 1)
    start_at size us opens open_ tail start e f g h = omega (arith, e, f, g, h)

    end_at : (size us open_ tail inner after mark rest start end : ℕ) → start ≡ size - tail → end ≡ start + inner → us ≡ open_ + tail → tail ≡ inner + after → after ≡ mark + rest → us ≤ size → size - rest ≡ end + mark
    end_at size us open_ tail inner after mark rest start end a b c d e h = omega (arith, a, b, c, d, e, h)

raw_swap : (size : ℕ) (us rest : Text) (tag : Tag) (raw : RawText) (os : List PageToken) (xs : List Text) → length us ≤ size → (b : Bool) → is_script tag.name ≡ b → RawMovesAt size us rest tag raw → ((ys : List Text) → AreTexts (scripts_in os) ys → length rest ≤ size → Swapped size rest os ys) → AreTexts (scripts_in (Raw tag raw ∷ os)) xs → Swapped size us (Raw tag raw ∷ os) xs
raw_swap size us rest tag raw os xs h false e r step are = style_swap size us rest tag raw os xs h e r (step xs) are
raw_swap size us rest tag raw os xs h true e r step are = by_texts xs (subst (λ z. AreTexts z xs) s are)
  where
    s : scripts_in (Raw tag raw ∷ os) ≡ raw ∷ scripts_in os
    s = ap (λ b. cond b (raw ∷ scripts_in os) (scripts_in os)) e

    by_texts : (xs : List Text) → AreTexts (raw ∷ scripts_in os) xs → Swapped size us (Raw tag raw ∷ os) xs
    by_texts [] a = absurd a
    by_texts (x ∷ xs) a = script_swap size us rest tag raw os x xs h e r (step xs a.1) a.0

pub swapped : (size : ℕ) (us : Text) (ts : List PageToken) → TokensOf size us ts → (xs : List Text) → length us ≤ size → AreTexts (scripts_in ts) xs → Swapped size us ts xs
swapped size us ts none xs h are =
    let e = no_texts xs are in
    let nothing : Swapped size [] [] [] = record { text = []; swaps = last (size - length {A = ℕ} []) []; tokened = λ other. record { tokens = []; scripts = []; reads = none; renewal = done } } in
    subst (Swapped size [] []) (sym e) nothing
swapped size us ts (more vs rest (Space v) os at h) xs l are = plain_swap size vs rest (Space v) os xs l refl refl at (λ a k. swapped size rest os h xs k a) are
swapped size us ts (more vs rest (token.Text v) os at h) xs l are = plain_swap size vs rest (token.Text v) os xs l refl refl at (λ a k. swapped size rest os h xs k a) are
swapped size us ts (more vs rest (Comment v) os at h) xs l are = plain_swap size vs rest (Comment v) os xs l refl refl at (λ a k. swapped size rest os h xs k a) are
swapped size us ts (more vs rest Doctype os at h) xs l are = plain_swap size vs rest Doctype os xs l refl refl at (λ a k. swapped size rest os h xs k a) are
swapped size us ts (more vs rest (StartTag v) os at h) xs l are = plain_swap size vs rest (StartTag v) os xs l refl refl at (λ a k. swapped size rest os h xs k a) are
swapped size us ts (more vs rest (EndTag v) os at h) xs l are = plain_swap size vs rest (EndTag v) os xs l refl refl at (λ a k. swapped size rest os h xs k a) are
swapped size us ts (more vs rest (Raw tag raw) os at h) xs l are = raw_swap size vs rest tag raw os xs l (is_script tag.name) refl (raw_moves_at size vs rest tag raw at) (λ ys a k. swapped size rest os h ys k a) are
