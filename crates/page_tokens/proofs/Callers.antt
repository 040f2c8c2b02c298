-- What the crates above use of the proofs here.
use Rattle.std.proofs.Common.{◌≡◌, ◌∙◌, ℕ, ◌+◌, ◌-◌, ◌≤◌, ◌==◌, ◌&&◌, ◌||◌, ◌⊎◌, inl, inr, Bool, true, false, List, [], ◌∷◌, ◌++◌, drop, length, refl, sym, ap, subst, Some, append_assoc, arith, codes}
use Rattle.std.specs.Char.{to_ascii_lowercase}
use Rattle.std.specs.List.{list_all}
use Rattle.std.proofs.lemmas.Bool.{and_parts, not-true, or_parts}
use Rattle.page_tokens.specs.declared.opening.Opening.TheVariants.{Characters}
use Rattle.page_tokens.specs.declared.token.PageToken.{PageToken}
use Rattle.page_tokens.specs.declared.token.PageToken.TheVariants.{Raw, Space}
use Rattle.page_tokens.specs.declared.token.RawText.{RawText}
use Rattle.page_tokens.specs.declared.token.Tag.{Tag}
use Rattle.page_tokens.specs.Characters.{begins_with, behind, from, is_front, is_front_in_any_case, is_other, is_space, run_of}
use Rattle.page_tokens.specs.Laws.{StaysAt, ends_itself, has_end_tag, opens_markup}
use Rattle.page_tokens.specs.Tags.{behind_close, ends_name, ends_raw_text, opening_of, paired, raw_text_of}
use Rattle.page_tokens.specs.Tokens.{TokenAt, TokensOf, placed}
use Rattle.page_tokens.specs.Tokens.TokenAt.{space, text, doctype, comment, end_tag, start_tag, raw}
use Rattle.page_tokens.specs.Tokens.TokensOf.{none, more}
use Rattle.page_tokens.proofs.AllTokens.{behind_token}
use Rattle.page_tokens.proofs.Decoding.{append_none}
use Rattle.page_tokens.proofs.OneToken.{nothing_at_end}
use Rattle.page_tokens.proofs.RawStay.{Nowhere, first_again, raw_is}
use Rattle.page_tokens.proofs.Runs.{IsSplit, all_append, run_again, run_split, same_unit}
use Rattle.page_tokens.proofs.Shapes.{characters_shape, opens_characters}
use Rattle.page_tokens.proofs.Staying.{RawStays, opens_again, raw_stays, token_stays}

pub stays : (size : ℕ) (us rest : List ℕ) (token : PageToken) → TokenAt size us rest token → StaysAt size us rest token
stays size us rest token at = token_stays size us rest token at

-- the tokens behind the first
pub record Behind (size : ℕ) (rest : List ℕ) (token : PageToken) (all : List PageToken) : Type 0 where
  pub others : List PageToken
  pub is : all ≡ token ∷ others
  pub tokens : TokensOf size rest others

pub after_token : (size : ℕ) (us rest : List ℕ) (token : PageToken) (all : List PageToken) → TokenAt size us rest token → TokensOf size us all → Behind size rest token all
after_token size us rest token all at h =
    let r = behind_token size us rest token all at h in
    record { others = r.others; is = r.is; tokens = r.tokens }

pub no_tokens : (size : ℕ) (us : List ℕ) (all : List PageToken) → us ≡ [] → TokensOf size us all → all ≡ []
no_tokens size us all e none = refl
no_tokens size us all e (more t r w ts a rest) = absurd (nothing_at_end size r w (subst (λ x. TokenAt size x r w) e a))

-- White space that goes on

record SpaceAt (us rest value : List ℕ) : Type 0 where
  opens : opening_of us ≡ Characters
  blank : list_all is_space (run_of (is_other 60) us) ≡ true
  rest_is : rest ≡ behind (is_other 60) us

space_at : (size : ℕ) (us rest value : List ℕ) (token : PageToken) → token ≡ Space value → TokenAt size us rest token → SpaceAt us rest value
space_at size us rest value token e (space u o b) = record { opens = o; blank = b; rest_is = refl }
space_at size us rest value token e (text u v o b d) = absurd (cc)
space_at size us rest value token e (doctype u r o d) = absurd (cc)
space_at size us rest value token e (comment u i r o d) = absurd (cc)
space_at size us rest value token e (end_tag u n r o d) = absurd (cc)
space_at size us rest value token e (start_tag u r t s b) = absurd (cc)
space_at size us rest value token e (raw u c i r t s b d) = absurd (cc)

textual_at : (size : ℕ) (us rest : List ℕ) (token : PageToken) → opening_of us ≡ Characters → TokenAt size us rest token → ends_itself token ≡ false
textual_at size us rest token o (space u e b) = refl
textual_at size us rest token o (text u v e b d) = refl
textual_at size us rest token o (doctype u r e d) = absurd (cc)
textual_at size us rest token o (comment u i r e d) = absurd (cc)
textual_at size us rest token o (end_tag u n r e d) = absurd (cc)
textual_at size us rest token o (start_tag u r t s b) = absurd (let p = s.opens in cc)
textual_at size us rest token o (raw u c i r t s b d) = absurd (let p = s.opens in cc)

run_more : (class : ℕ → Bool) (run us : List ℕ) → list_all class run ≡ true → (run_of class (run ++ us) ≡ run ++ run_of class us) × (behind class (run ++ us) ≡ behind class us)
run_more class run us all =
    let s = run_split class us in
    let r = run_again class (run ++ run_of class us) (behind class us) (all_append class run (run_of class us) all s.all) s.ends in
    let is : run ++ us ≡ (run ++ run_of class us) ++ behind class us = ap (λ x. run ++ x) s.whole ∙ sym (append_assoc run (run_of class us) (behind class us)) in
    (ap (run_of class) is ∙ r.0, ap (behind class) is ∙ r.1)

some_text : (us : List ℕ) → opening_of us ≡ Characters → us ≡ [] → ⊥
some_text us o e = let s = characters_shape us o in let i = s.is in absurd (cc)

no_opening : (us vs : List ℕ) → vs ≡ us → opening_of vs ≡ Characters → us ≡ [] → ⊥
no_opening us vs e o z = some_text vs o (e ∙ z)

all_behind : (class : ℕ → Bool) (a b : List ℕ) → list_all class (a ++ b) ≡ true → list_all class b ≡ true
all_behind class [] b e = e
all_behind class (u ∷ a) b e = all_behind class a b (and_parts (class u) (list_all class (a ++ b)) e).1

-- the first token of a text that begins with white space, and the tokens of what follows that white space
pub record SpaceSplit (size : ℕ) (after : List ℕ) (all : List PageToken) : Type 0 where
  pub token : PageToken
  pub others : List PageToken
  pub is : all ≡ token ∷ others
  pub textual : ends_itself token ≡ false
  pub behind_space : (value : List ℕ) → token ≡ Space value → TokensOf size after others ⊎ ((r : List ℕ) × TokensOf size after (Space r ∷ others))

space_behind : (size : ℕ) (after : List ℕ) (others : List PageToken) → list_all is_space (run_of (is_other 60) after) ≡ true → TokensOf size (behind (is_other 60) after) others → TokensOf size after others ⊎ ((r : List ℕ) × TokensOf size after (Space r ∷ others))
space_behind size after others b h = by_run (run_of (is_other 60) after) refl (run_split (is_other 60) after)
  where
    opens : (u : ℕ) (r : List ℕ) → IsSplit (is_other 60) after (u ∷ r) (behind (is_other 60) after) → opening_of after ≡ Characters
    opens u r s =
        let p = and_parts (is_other 60 u) (list_all (is_other 60) r) s.all in
        ap opening_of s.whole ∙ opens_characters u (r ++ behind (is_other 60) after) (not-true (u == 60) p.0)

    by_run : (r : List ℕ) → run_of (is_other 60) after ≡ r → IsSplit (is_other 60) after (run_of (is_other 60) after) (behind (is_other 60) after) → TokensOf size after others ⊎ ((r : List ℕ) × TokensOf size after (Space r ∷ others))
    by_run [] e s = inl (subst (λ x. TokensOf size x others) (sym (s.whole ∙ ap (λ x. x ++ behind (is_other 60) after) e)) h)
    by_run (u ∷ r) e s =
        let t = subst (λ x. IsSplit (is_other 60) after x (behind (is_other 60) after)) e s in
        inr (run_of (is_other 60) after, more after (behind (is_other 60) after) (Space (run_of (is_other 60) after)) others (space after (opens u r t) b) h)

pub space_split : (size other : ℕ) (v value after : List ℕ) (all : List PageToken) → TokenAt size v [] (Space value) → TokensOf other (v ++ after) all → SpaceSplit other after all
space_split size other v value after all at h =
    let s = space_at size v [] value (Space value) refl at in
    let parts = run_split (is_other 60) v in
    let whole : v ≡ run_of (is_other 60) v = parts.whole ∙ ap (λ x. run_of (is_other 60) v ++ x) (sym s.rest_is) ∙ append_none (run_of (is_other 60) v) in
    let all_other : list_all (is_other 60) v ≡ true = ap (list_all (is_other 60)) whole ∙ parts.all in
    let first = subst (λ x. opening_of x ≡ Characters) (sym (append_none v)) s.opens in
    let opens = opens_again v [] (some_text v s.opens) first after in
    by_tokens (v ++ after) all refl all_other opens h
  where
    by_tokens : (us : List ℕ) (all : List PageToken) → us ≡ v ++ after → list_all (is_other 60) v ≡ true → opening_of (v ++ after) ≡ Characters → TokensOf other us all → SpaceSplit other after all
    by_tokens us all e w o none = absurd (no_opening [] (v ++ after) (sym e) o refl)
    by_tokens us all e w o (more t r k ts a rest) =
        let a' = subst (λ x. TokenAt other x r k) e a in
        record {
          token = k;
          others = ts;
          is = refl;
          textual = textual_at other (v ++ after) r k o a';
          behind_space = λ x is.
              let s = space_at other (v ++ after) r x k is a' in
              let m = run_more (is_other 60) v after w in
              space_behind other after ts (all_behind is_space v (run_of (is_other 60) after) (sym (ap (list_all is_space) m.0) ∙ s.blank)) (subst (λ y. TokensOf other y ts) (s.rest_is ∙ m.1) rest);
        }

-- Tokens that move

-- the token is no raw text
abbrev pub is_raw : PageToken → Bool
is_raw (Raw tag r) = true
is_raw t = false

-- a token without raw text stands at any place
pub anywhere : (size other : ℕ) (us rest : List ℕ) (token : PageToken) → is_raw token ≡ false → TokenAt size us rest token → TokenAt other us rest token
anywhere size other us rest token e (space u o b) = space u o b
anywhere size other us rest token e (text u v o b d) = text u v o b d
anywhere size other us rest token e (doctype u r o d) = doctype u r o d
anywhere size other us rest token e (comment u i r o d) = comment u i r o d
anywhere size other us rest token e (end_tag u n r o d) = end_tag u n r o d
anywhere size other us rest token e (start_tag u r t s b) = start_tag u r t s b
anywhere size other us rest token e (raw u c i r t s b d) = absurd (cc)

-- such a token, before whatever follows it, at any place
pub record MovesAt (us rest : List ℕ) (token : PageToken) : Type 0 where
  pub front : List ℕ
  pub is_front : us ≡ front ++ rest
  pub ends : (ends_itself token || opens_markup rest) ≡ true
  pub moves : (size : ℕ) (after : List ℕ) → (ends_itself token || opens_markup after) ≡ true → TokenAt size (front ++ after) after token

pub moves_at : (size : ℕ) (us rest : List ℕ) (token : PageToken) → is_raw token ≡ false → TokenAt size us rest token → MovesAt us rest token
moves_at size us rest token e at =
    let s = token_stays (length us) us rest token (anywhere size (length us) us rest token e at) in
    record {
      front = s.front;
      is_front = s.is_front;
      ends = s.ends;
      moves = λ other after ends. anywhere (length (s.front ++ after)) other (s.front ++ after) after token e (s.stays (length (s.front ++ after)) after ends (omega arith));
    }

-- a text in which no end tag begins, before one

-- the end of raw text stands nowhere in the text
abbrev pub NoEnd : List ℕ → List ℕ → List ℕ → Type 0
NoEnd name value after = Nowhere (ends_raw_text name) value after

raw_front : (name us : List ℕ) → ends_raw_text name us ≡ true → is_front_in_any_case (60 ∷ 47 ∷ name) us ≡ true
raw_front name [] e = absurd (cc)
raw_front name (u ∷ []) e =
    let a = and_parts (is_front (codes "</") (u ∷ []) && is_front_in_any_case name (drop 2 (u ∷ []))) (begins_with ends_name (drop (2 + length name) (u ∷ []))) e in
    let b = and_parts (is_front (codes "</") (u ∷ [])) (is_front_in_any_case name (drop 2 (u ∷ []))) a.0 in
    let c = and_parts (u == 60) false b.0 in
    absurd (cc)
raw_front name (u ∷ v ∷ us) e =
    let a = and_parts (is_front (codes "</") (u ∷ v ∷ us) && is_front_in_any_case name us) (begins_with ends_name (drop (2 + length name) (u ∷ v ∷ us))) e in
    let b = and_parts (is_front (codes "</") (u ∷ v ∷ us)) (is_front_in_any_case name us) a.0 in
    let c = and_parts (u == 60) ((v == 47) && true) b.0 in
    let d = and_parts (v == 47) true c.1 in
    let first = same_unit u 60 c.0 in
    let second = same_unit v 47 d.0 in
    ap (λ x. is_front_in_any_case (60 ∷ 47 ∷ name) (x ∷ v ∷ us)) first ∙ ap (λ x. is_front_in_any_case (60 ∷ 47 ∷ name) (60 ∷ x ∷ us)) second ∙ b.1

not_sixty : (c : ℕ) (cs after : List ℕ) → is_other 60 c ≡ true → is_front_in_any_case (c ∷ cs) (60 ∷ after) ≡ false
not_sixty c cs after e = by_unit (60 == c) refl
  where
    by_unit : (b : Bool) → (60 == c) ≡ b → is_front_in_any_case (c ∷ cs) (60 ∷ after) ≡ false
    by_unit false f = ap (λ b. b && is_front_in_any_case cs after) f
    by_unit true f = absurd (let is = same_unit 60 c f in let z = ap (is_other 60) is in cc)

any_front : (cs us after : List ℕ) → list_all (is_other 60) cs ≡ true → is_front_in_any_case cs (us ++ 60 ∷ after) ≡ is_front_in_any_case cs us
any_front [] us after e = refl
any_front (c ∷ cs) [] after e = let p = and_parts (is_other 60 c) (list_all (is_other 60) cs) e in not_sixty c cs after p.0
any_front (c ∷ cs) (u ∷ us) after e =
    let p = and_parts (is_other 60 c) (list_all (is_other 60) cs) e in ap (λ b. (to_ascii_lowercase u == c) && b) (any_front cs us after p.1)

pub no_end : (name value mark after : List ℕ) → list_all (is_other 60) name ≡ true → has_end_tag name value ≡ false → NoEnd name value ((60 ∷ mark) ++ after)
no_end name [] mark after n e = tt
no_end name (u ∷ us) mark after n e =
    let p = or_parts (is_front_in_any_case (60 ∷ 47 ∷ name) (u ∷ us)) (has_end_tag name us) e in
    (by_test (ends_raw_text name (u ∷ (us ++ 60 ∷ (mark ++ after)))) refl p.0, no_end name us mark after n p.1)
  where
    by_test : (b : Bool) → ends_raw_text name (u ∷ (us ++ 60 ∷ (mark ++ after))) ≡ b → is_front_in_any_case (60 ∷ 47 ∷ name) (u ∷ us) ≡ false → ends_raw_text name (u ∷ (us ++ 60 ∷ (mark ++ after))) ≡ false
    by_test false f g = f
    by_test true f g =
        let h = raw_front name (u ∷ (us ++ 60 ∷ (mark ++ after))) f in
        let k = ap (λ b. (to_ascii_lowercase u == 60) && b) (any_front (47 ∷ name) us (mark ++ after) n) in
        absurd (let z : true ≡ false = sym h ∙ k ∙ g in cc)

-- such a text is all the raw text before the end tag
pub raw_until : (name value mark after rest : List ℕ) → list_all (is_other 60) name ≡ true → has_end_tag name value ≡ false → ends_raw_text name ((60 ∷ mark) ++ after) ≡ true → behind_close (drop (2 + length name) ((60 ∷ mark) ++ after)) ≡ Some rest → raw_text_of name (value ++ ((60 ∷ mark) ++ after)) ≡ Some (value, rest)
raw_until name value mark after rest n e ends closes =
    let tail : List ℕ = (60 ∷ mark) ++ after in
    let k : ℕ = 2 + length name in
    let first = first_again (ends_raw_text name) value tail (no_end name value mark after n e) ends (omega arith) in
    raw_is name (value ++ tail) ∙ ap (λ x. paired x (behind_close (drop k (from (ends_raw_text name) (value ++ tail))))) first.0 ∙ ap (λ x. paired value (behind_close (drop k x))) first.1 ∙ ap (paired value) closes

-- an element with raw text, before whatever follows it, at any place and with any text that does not end sooner
pub record RawMovesAt (size : ℕ) (us rest : List ℕ) (tag : Tag) (r : RawText) : Type 0 where
  pub opens : List ℕ
  pub mark : List ℕ
  pub whole : us ≡ (opens ++ 62 ∷ []) ++ (r.text ++ ((60 ∷ mark) ++ rest))
  pub start : r.start ≡ size - length (r.text ++ ((60 ∷ mark) ++ rest))
  pub end : r.end ≡ r.start + length r.text
  pub long : 3 + length tag.name ≤ length (60 ∷ mark)
  pub nowhere : (after : List ℕ) → Nowhere (ends_raw_text tag.name) r.text ((60 ∷ mark) ++ after)
  pub moves : (other : ℕ) (value after : List ℕ) → Nowhere (ends_raw_text tag.name) value ((60 ∷ mark) ++ after) → TokenAt other ((opens ++ 62 ∷ []) ++ (value ++ ((60 ∷ mark) ++ after))) after (Raw tag (placed other (value ++ ((60 ∷ mark) ++ after)) value))

raw_mark : (name mark : List ℕ) → 3 + length name ≤ length mark → ends_raw_text name (mark ++ []) ≡ true → (m : List ℕ) × (mark ≡ 60 ∷ m)
raw_mark name [] l e = absurd (omega arith)
raw_mark name (u ∷ m) l e =
    let a = and_parts (is_front (codes "</") (u ∷ (m ++ [])) && is_front_in_any_case name (drop 2 (u ∷ (m ++ [])))) (begins_with ends_name (drop (2 + length name) (u ∷ (m ++ [])))) e in
    let b = and_parts (is_front (codes "</") (u ∷ (m ++ []))) (is_front_in_any_case name (drop 2 (u ∷ (m ++ [])))) a.0 in
    let c = and_parts (u == 60) (is_front (codes "/") (m ++ [])) b.0 in
    (m, ap (λ x. x ∷ m) (same_unit u 60 c.0))

raw_from : (size : ℕ) (us content inner rest : List ℕ) (tag : Tag) → RawStays us rest tag content inner → RawMovesAt size us rest tag (placed size content inner)
raw_from size us content inner rest tag r = by_mark r.ended.0 r.ended.1 (raw_mark tag.name r.mark r.long (r.ends []))
  where
    by_mark : (g : List ℕ) → r.opens ≡ g ++ 62 ∷ [] → (m : List ℕ) × (r.mark ≡ 60 ∷ m) → RawMovesAt size us rest tag (placed size content inner)
    by_mark g e m =
        let content_is : content ≡ inner ++ ((60 ∷ m.0) ++ rest) = r.content_is ∙ ap (λ x. inner ++ (x ++ rest)) m.1 in
        record {
          opens = g;
          mark = m.0;
          whole = r.whole ∙ ap (λ x. x ++ content) e ∙ ap (λ x. (g ++ 62 ∷ []) ++ x) content_is;
          start = ap (λ x. size - length x) content_is;
          end = refl;
          long = subst (λ x. 3 + length tag.name ≤ length x) m.1 r.long;
          nowhere = λ after. subst (λ x. Nowhere (ends_raw_text tag.name) inner (x ++ after)) m.1 (r.nowhere after);
          moves = λ other value after n.
              let n' = subst (λ x. Nowhere (ends_raw_text tag.name) value (x ++ after)) (sym m.1) n in
              let whole : List ℕ → List ℕ → Type 0 = λ o x. TokenAt other (o ++ (value ++ (x ++ after))) after (Raw tag (placed other (value ++ (x ++ after)) value)) in
              subst (λ o. whole o (60 ∷ m.0)) e (subst (whole r.opens) m.1 (r.again other value after n'));
        }

raw_is_raw : (size : ℕ) (us rest : List ℕ) (token : PageToken) (tag : Tag) (r : RawText) → token ≡ Raw tag r → TokenAt size us rest token → RawMovesAt size us rest tag r
raw_is_raw size us rest token tag r e (space u o b) = absurd (cc)
raw_is_raw size us rest token tag r e (text u v o b d) = absurd (cc)
raw_is_raw size us rest token tag r e (doctype u q o d) = absurd (cc)
raw_is_raw size us rest token tag r e (comment u i q o d) = absurd (cc)
raw_is_raw size us rest token tag r e (end_tag u n q o d) = absurd (cc)
raw_is_raw size us rest token tag r e (start_tag u q t s b) = absurd (cc)
raw_is_raw size us rest token tag r e (raw u c i q t s b d) =
    let one : t ≡ tag = cc in
    let two : placed size c i ≡ r = cc in
    subst (λ x. RawMovesAt size u q tag x) two (subst (λ x. RawMovesAt size u q x (placed size c i)) one (raw_from size u c i q t (raw_stays u c i q t s b d)))

pub raw_moves_at : (size : ℕ) (us rest : List ℕ) (tag : Tag) (r : RawText) → TokenAt size us rest (Raw tag r) → RawMovesAt size us rest tag r
raw_moves_at size us rest tag r at = raw_is_raw size us rest (Raw tag r) tag r refl at
