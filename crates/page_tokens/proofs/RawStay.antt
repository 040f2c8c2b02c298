-- Comments and raw text where another text stands behind them.
use Rattle.std.proofs.Common.{◌≡◌, ◌∙◌, ℕ, suc, ◌+◌, ◌≤◌, ◌<◌, ◌==◌, ◌&&◌, Bool, true, false, List, [], ◌∷◌, ◌++◌, take, drop, length, refl, sym, ap, subst, Option, Some, None, append_assoc, length-append, length-drop, arith, codes}
use Rattle.std.proofs.lemmas.List.{drop-append-le, length-take-le, take-append-drop}
use Rattle.std.proofs.Math.ListN.{drop_of_length-le}
use Rattle.std.proofs.Math.Seq.{drop-append_seam}
use Rattle.std.specs.Char.{to_ascii_lowercase}
use Rattle.std.proofs.lemmas.Bool.{and_parts}
use Rattle.page_tokens.specs.Characters.{before, begins_with, from, is_front, is_front_in_any_case, is_space, place_of}
use Rattle.page_tokens.specs.Tags.{behind_close, behind_comment, closes_comment, comment_of, ends_name, ends_raw_text, paired, raw_text_of}
use Rattle.page_tokens.proofs.Pairs.{some_pair}
use Rattle.page_tokens.proofs.Runs.{same_unit, solid_len}
use Rattle.page_tokens.proofs.TagsStay.{EndsClose, ends_close}

-- The first place where a test holds

-- the test holds nowhere in the first part
abbrev pub Nowhere : (List ℕ → Bool) → List ℕ → List ℕ → Type 0
Nowhere test [] tail = Unit {0}
Nowhere test (u ∷ us) tail = (test (u ∷ (us ++ tail)) ≡ false) × Nowhere test us tail

-- a text is what stands before the first place and from there on
pub record IsFirst (test : List ℕ → Bool) (us front tail : List ℕ) : Type 0 where
  pub whole : us ≡ front ++ tail
  pub nowhere : Nowhere test front tail
  pub here : (u : ℕ) (rest : List ℕ) → tail ≡ u ∷ rest → test tail ≡ true

take_one : (n : ℕ) (u : ℕ) (us : List ℕ) → take (1 + n) (u ∷ us) ≡ u ∷ take n us
take_one n u us = let e : 1 + n ≡ suc n = omega arith in ap (λ k. take k (u ∷ us)) e

drop_one : (n : ℕ) (u : ℕ) (us : List ℕ) → drop (1 + n) (u ∷ us) ≡ drop n us
drop_one n u us = let e : 1 + n ≡ suc n = omega arith in ap (λ k. drop k (u ∷ us)) e

place_here : (test : List ℕ → Bool) (u : ℕ) (us : List ℕ) → test (u ∷ us) ≡ true → (before test (u ∷ us) ≡ []) × (from test (u ∷ us) ≡ u ∷ us)
place_here test u us e = (rw e refl, rw e refl)

place_behind : (test : List ℕ → Bool) (u : ℕ) (us : List ℕ) → test (u ∷ us) ≡ false → (before test (u ∷ us) ≡ u ∷ before test us) × (from test (u ∷ us) ≡ from test us)
place_behind test u us e = (rw e (take_one (place_of test us) u us), rw e (drop_one (place_of test us) u us))

pub first_split : (test : List ℕ → Bool) (us : List ℕ) → IsFirst test us (before test us) (from test us)
first_split test [] = record { whole = refl; nowhere = tt; here = λ u rest e. absurd (cc) }
first_split test (u ∷ us) = by_case (test (u ∷ us)) refl (first_split test us)
  where
    by_case : (b : Bool) → test (u ∷ us) ≡ b → IsFirst test us (before test us) (from test us) → IsFirst test (u ∷ us) (before test (u ∷ us)) (from test (u ∷ us))
    by_case true e f = let p = place_here test u us e in rw (p.0, p.1) (record { whole = refl; nowhere = tt; here = λ v rest g. e })
    by_case false e f =
        let p = place_behind test u us e in
        rw (p.0, p.1) (record { whole = ap (λ x. u ∷ x) f.whole; nowhere = (sym (ap (λ x. test (u ∷ x)) f.whole) ∙ e, f.nowhere); here = f.here })

pub first_again : (test : List ℕ → Bool) (front tail : List ℕ) → Nowhere test front tail → test tail ≡ true → 1 ≤ length tail → (before test (front ++ tail) ≡ front) × (from test (front ++ tail) ≡ tail)
first_again test [] [] n e h = absurd (omega arith)
first_again test [] (v ∷ tail) n e h = place_here test v tail e
first_again test (u ∷ us) tail n e h =
    let p = place_behind test u (us ++ tail) n.0 in
    let more = first_again test us tail n.1 e h in
    (p.0 ∙ ap (λ x. u ∷ x) more.0, p.1 ∙ more.1)

-- a test that looks at so many units at most holds nowhere in the first part, whatever stands behind those units
pub nowhere_again : (test : List ℕ → Bool) (size : ℕ) (front mark old new : List ℕ) → ((us : List ℕ) → size ≤ length us → test (us ++ old) ≡ test (us ++ new)) → size ≤ length mark → Nowhere test front (mark ++ old) → Nowhere test front (mark ++ new)
nowhere_again test size [] mark old new local long n = tt
nowhere_again test size (u ∷ us) mark old new local long n =
    let enough : size ≤ length (u ∷ (us ++ mark)) = let l = length-append us mark in omega (arith, l, long) in
    (ap (λ x. test (u ∷ x)) (sym (append_assoc us mark new)) ∙ sym (local (u ∷ (us ++ mark)) enough) ∙ ap (λ x. test (u ∷ x)) (append_assoc us mark old) ∙ n.0, nowhere_again test size us mark old new local long n.1)

-- Fronts

pub front_local : (cs us old new : List ℕ) → length cs ≤ length us → is_front cs (us ++ old) ≡ is_front cs (us ++ new)
front_local [] us old new h = refl
front_local (c ∷ cs) [] old new h = absurd (omega arith)
front_local (c ∷ cs) (u ∷ us) old new h = ap (λ b. (u == c) && b) (front_local cs us old new (omega arith))

pub any_case_local : (cs us old new : List ℕ) → length cs ≤ length us → is_front_in_any_case cs (us ++ old) ≡ is_front_in_any_case cs (us ++ new)
any_case_local [] us old new h = refl
any_case_local (c ∷ cs) [] old new h = absurd (omega arith)
any_case_local (c ∷ cs) (u ∷ us) old new h = ap (λ b. (to_ascii_lowercase u == c) && b) (any_case_local cs us old new (omega arith))

begins_local : (class : ℕ → Bool) (us old new : List ℕ) → 1 ≤ length us → begins_with class (us ++ old) ≡ begins_with class (us ++ new)
begins_local class [] old new h = absurd (omega arith)
begins_local class (u ∷ us) old new h = refl

-- Comments

pub front_is : (cs us : List ℕ) → is_front cs us ≡ true → (rest : List ℕ) × (us ≡ cs ++ rest)
front_is [] us e = (us, refl)
front_is (c ∷ cs) [] e = absurd (cc)
front_is (c ∷ cs) (u ∷ us) e =
    let p = and_parts (u == c) (is_front cs us) e in
    let more = front_is cs us p.1 in
    (more.0, ap (λ x. x ∷ us) (same_unit u c p.0) ∙ ap (λ x. c ∷ x) more.1)

-- a comment behind `<!--`, before whatever follows it
pub record EndsComment (us inner rest : List ℕ) : Type 0 where
  pub front : List ℕ
  pub whole : us ≡ front ++ rest
  pub again : (more : List ℕ) → comment_of (front ++ more) ≡ Some (inner, more)

pub ends_comment : (us inner rest : List ℕ) → comment_of us ≡ Some (inner, rest) → EndsComment us inner rest
ends_comment us inner rest e = by_tail (before closes_comment us) (from closes_comment us) (first_split closes_comment us) e
  where
    made : (front old : List ℕ) → Nowhere closes_comment front (45 ∷ 45 ∷ 62 ∷ old) → (more : List ℕ) → comment_of ((front ++ 45 ∷ 45 ∷ 62 ∷ []) ++ more) ≡ Some (front, more)
    made front old n more =
        let there = nowhere_again closes_comment 3 front (45 ∷ 45 ∷ 62 ∷ []) old more (λ vs h. front_local (codes "-->") vs old more h) (omega arith) n in
        let f = first_again closes_comment front (45 ∷ 45 ∷ 62 ∷ more) there refl (omega arith) in
        ap comment_of (append_assoc front (45 ∷ 45 ∷ 62 ∷ []) more) ∙ ap (λ x. behind_comment x (from closes_comment (front ++ 45 ∷ 45 ∷ 62 ∷ more))) f.0 ∙ ap (behind_comment front) f.1

    by_mark : (front tail old : List ℕ) → IsFirst closes_comment us front tail → tail ≡ 45 ∷ 45 ∷ 62 ∷ old → behind_comment front tail ≡ Some (inner, rest) → EndsComment us inner rest
    by_mark front tail old f m g =
        let p = some_pair front inner old rest (sym (ap (behind_comment front) m) ∙ g) in
        let n = subst (λ x. Nowhere closes_comment front x) m f.nowhere in
        record {
          front = front ++ 45 ∷ 45 ∷ 62 ∷ [];
          whole = f.whole ∙ ap (λ x. front ++ x) (m ∙ ap (λ x. 45 ∷ 45 ∷ 62 ∷ x) p.1) ∙ sym (append_assoc front (45 ∷ 45 ∷ 62 ∷ []) rest);
          again = λ more. made front old n more ∙ ap (λ x. Some (x, more)) p.0;
        }

    by_tail : (front tail : List ℕ) → IsFirst closes_comment us front tail → behind_comment front tail ≡ Some (inner, rest) → EndsComment us inner rest
    by_tail front [] f g = absurd (cc)
    by_tail front (u ∷ t) f g = let m = front_is (codes "-->") (u ∷ t) (f.here u t refl) in by_mark front (u ∷ t) m.0 f m.1 g

-- Raw text

pub raw_is : (name us : List ℕ) → raw_text_of name us ≡ paired (before (ends_raw_text name) us) (behind_close (drop (2 + length name) (from (ends_raw_text name) us)))
unfolding raw_text_of
raw_is name us = refl

paired_parts : (front : List ℕ) (o : Option (List ℕ)) (inner rest : List ℕ) → paired front o ≡ Some (inner, rest) → (front ≡ inner) × (o ≡ Some rest)
paired_parts front None inner rest e = absurd (cc)
paired_parts front (Some x) inner rest e = let p = some_pair front inner x rest e in (p.0, ap Some p.1)

raw_local : (name us old new : List ℕ) → 3 + length name ≤ length us → ends_raw_text name (us ++ old) ≡ ends_raw_text name (us ++ new)
raw_local name us old new h =
    let k = 2 + length name in
    let two : (x : List ℕ) → drop 2 (us ++ x) ≡ drop 2 us ++ x = λ x. drop-append-le 2 us x (omega arith) in
    let all : (x : List ℕ) → drop k (us ++ x) ≡ drop k us ++ x = λ x. drop-append-le k us x (omega arith) in
    let name_len = length-drop 2 us in
    let end_len = length-drop k us in
    let open_ = front_local (codes "</") us old new (omega arith) in
    let named = ap (is_front_in_any_case name) (two old) ∙ any_case_local name (drop 2 us) old new (omega (arith, name_len)) ∙ sym (ap (is_front_in_any_case name) (two new)) in
    let ended = ap (begins_with ends_name) (all old) ∙ begins_local ends_name (drop k us) old new (omega (arith, end_len)) ∙ sym (ap (begins_with ends_name) (all new)) in
    ap (λ b. b && is_front_in_any_case name (drop 2 (us ++ old)) && begins_with ends_name (drop k (us ++ old))) open_ ∙ ap (λ b. is_front (codes "</") (us ++ new) && b && begins_with ends_name (drop k (us ++ old))) named ∙ ap (λ b. is_front (codes "</") (us ++ new) && is_front_in_any_case name (drop 2 (us ++ new)) && b) ended

-- raw text and its end tag, before whatever follows it, and with any other text that does not end sooner
pub record EndsRaw (name us inner rest : List ℕ) : Type 0 where
  pub mark : List ℕ
  pub whole : us ≡ inner ++ (mark ++ rest)
  pub long : 3 + length name ≤ length mark
  pub nowhere : (more : List ℕ) → Nowhere (ends_raw_text name) inner (mark ++ more)
  pub ends : (more : List ℕ) → ends_raw_text name (mark ++ more) ≡ true
  pub again : (other more : List ℕ) → Nowhere (ends_raw_text name) other (mark ++ more) → raw_text_of name (other ++ (mark ++ more)) ≡ Some (other, more)

starts_close : (us : List ℕ) (k : ℕ) → begins_with ends_name (drop k us) ≡ true → k < length us
starts_close us k e = by_drop (drop k us) refl e
  where
    by_drop : (d : List ℕ) → drop k us ≡ d → begins_with ends_name d ≡ true → k < length us
    by_drop [] f g = absurd (cc)
    by_drop (u ∷ d) f g = let l = length-drop k us in let m = ap length f in omega (arith, l, m)

nothing_closes : (k : ℕ) → behind_close (drop k []) ≡ None
nothing_closes k = ap behind_close (drop_of_length-le [] (omega arith))

pub ends_raw : (name us inner rest : List ℕ) → raw_text_of name us ≡ Some (inner, rest) → EndsRaw name us inner rest
ends_raw name us inner rest e =
    let k = 2 + length name in
    let test = ends_raw_text name in
    let p = paired_parts (before test us) (behind_close (drop k (from test us))) inner rest (sym (raw_is name us) ∙ e) in
    by_tail (before test us) (from test us) (first_split test us) p.0 p.1
  where
    by_close : (front tail : List ℕ) → IsFirst (ends_raw_text name) us front tail → front ≡ inner → ends_raw_text name tail ≡ true → EndsClose (drop (2 + length name) tail) rest → 2 + length name < length tail → EndsRaw name us inner rest
    by_close front tail f same here c long =
        let k : ℕ = 2 + length name in
        let test : List ℕ → Bool = ends_raw_text name in
        let open_ : List ℕ = take k tail in
        let mark : List ℕ = open_ ++ c.front in
        let open_len : length open_ ≡ k = length-take-le k tail (omega arith) in
        let mark_len = length-append open_ c.front in
        let some : 1 ≤ length c.front = solid_len is_space c.front c.solid in
        let enough : 3 + length name ≤ length mark = omega (arith, open_len, mark_len, some) in
        let is : tail ≡ mark ++ rest = sym (take-append-drop k tail) ∙ ap (λ x. open_ ++ x) c.whole ∙ sym (append_assoc open_ c.front rest) in
        let local : (more vs : List ℕ) → 3 + length name ≤ length vs → test (vs ++ rest) ≡ test (vs ++ more) = λ more vs h. raw_local name vs rest more h in
        let ends : (more : List ℕ) → test (mark ++ more) ≡ true = λ more. sym (local more mark enough) ∙ sym (ap test is) ∙ here in
        let n0 : Nowhere test front (mark ++ rest) = subst (λ x. Nowhere test front x) is f.nowhere in
        let all_len : (more : List ℕ) → 1 ≤ length (mark ++ more) = λ more. let l = length-append mark more in omega (arith, l, enough) in
        record {
          mark = mark;
          whole = f.whole ∙ ap (λ x. x ++ tail) same ∙ ap (λ x. inner ++ x) is;
          long = enough;
          nowhere = λ more. subst (λ x. Nowhere test x (mark ++ more)) same (nowhere_again test (3 + length name) front mark rest more (local more) enough n0);
          ends = ends;
          again = λ other more n.
              let g = first_again test other (mark ++ more) n (ends more) (all_len more) in
              let back : drop k (mark ++ more) ≡ c.front ++ more = ap (drop k) (append_assoc open_ c.front more) ∙ ap (λ x. drop x (open_ ++ (c.front ++ more))) (sym open_len) ∙ drop-append_seam open_ (c.front ++ more) in
              raw_is name (other ++ (mark ++ more)) ∙ ap (λ x. paired x (behind_close (drop k (from test (other ++ (mark ++ more)))))) g.0 ∙ ap (λ x. paired other (behind_close (drop k x))) g.1 ∙ ap (λ x. paired other (behind_close x)) back ∙ ap (paired other) (c.again more);
        }

    by_tail : (front tail : List ℕ) → IsFirst (ends_raw_text name) us front tail → front ≡ inner → behind_close (drop (2 + length name) tail) ≡ Some rest → EndsRaw name us inner rest
    by_tail front [] f same g = absurd (let n = nothing_closes (2 + length name) in cc)
    by_tail front (u ∷ t) f same g =
        let here = f.here u t refl in
        let parts = and_parts (is_front (codes "</") (u ∷ t) && is_front_in_any_case name (drop 2 (u ∷ t))) (begins_with ends_name (drop (2 + length name) (u ∷ t))) here in
        by_close front (u ∷ t) f same here (ends_close (drop (2 + length name) (u ∷ t)) rest g) (starts_close (u ∷ t) (2 + length name) parts.1)
