-- One token stands at one place.
use Rattle.std.proofs.Common.{◌≡◌, ◌∙◌, ◌+◌, ◌-◌, ◌<◌, ◌≤◌, ◌==◌, ℕ, Bool, true, false, cond, not, List, [], ◌∷◌, take, drop, length, refl, sym, ap, subst, Some, None, arith, codes}
use Rattle.std.specs.List.{list_all, prefix_len}
use Rattle.dom_tree.specs.Name.{folded, is_name_part}
use Rattle.page_tokens.specs.declared.opening.Opening.TheVariants as opening
use Rattle.page_tokens.specs.declared.token.PageToken.{PageToken}
use Rattle.page_tokens.specs.declared.token.PageToken.TheVariants.{Comment, Doctype, EndTag, Raw, Space, StartTag, Text}
use Rattle.page_tokens.specs.declared.token.Tag.{Tag}
use Rattle.page_tokens.specs.Attributes.{Attributes}
use Rattle.page_tokens.specs.Characters.{behind, is_front, is_front_in_any_case, is_letter, is_other, is_space, run_of}
use Rattle.page_tokens.specs.References.{Decodes}
use Rattle.page_tokens.specs.Tags.{comment_of, doctype_of, end_tag_of, markup, opening_of, raw_text_of, tag_end}
use Rattle.page_tokens.specs.Tokens.{StartTagAt, TokenAt, begins_raw_text, placed}
use Rattle.page_tokens.specs.Tokens.TokenAt.{space, text, doctype, comment, end_tag, start_tag, raw}
use Rattle.page_tokens.proofs.Decoding.{decodes_once}
use Rattle.page_tokens.proofs.Listing.{attributes_once}
use Rattle.page_tokens.proofs.Pairs.{some_one, some_pair}

-- Start tags

one_tag : (n n' : List ℕ) (a a' : List (List ℕ × List ℕ)) (c c' : Bool) → n ≡ n' → a ≡ a' → c ≡ c' → let left : Tag = record { name = n; attributes = a; closed = c } in left ≡ record { name = n'; attributes = a'; closed = c' }
one_tag n n' a a' c c' e f g =
    let name : List ℕ → Tag = λ x. record { name = x; attributes = a; closed = c } in
    let attributes : List (List ℕ × List ℕ) → Tag = λ x. record { name = n'; attributes = x; closed = c } in
    let closed : Bool → Tag = λ x. record { name = n'; attributes = a'; closed = x } in
    ap name e ∙ ap attributes f ∙ ap closed g

pub start_tag_once : (us rest rest' : List ℕ) (tag tag' : Tag) → StartTagAt us rest tag → StartTagAt us rest' tag' → (rest ≡ rest') × (tag ≡ tag')
start_tag_once us rest rest' tag tag' s o =
    let same = attributes_once (behind is_name_part (drop 1 us)) s.end o.end tag.attributes tag'.attributes s.attributes o.attributes in
    let ends = some_pair tag.closed tag'.closed rest rest' (sym s.closes ∙ ap tag_end same.0 ∙ o.closes) in
    (ends.1, one_tag tag.name tag'.name tag.attributes tag'.attributes tag.closed tag'.closed (s.named ∙ sym o.named) same.1 ends.0)

-- What a token of each class is

data Textual (us : List ℕ) : PageToken → Type 0 where
  blank : list_all is_space (run_of (is_other 60) us) ≡ true → Textual us (Space (run_of (is_other 60) us))
  written : (value : List ℕ) → list_all is_space (run_of (is_other 60) us) ≡ false → Decodes (run_of (is_other 60) us) value → Textual us (Text value)

record Declared (us rest : List ℕ) (token : PageToken) : Type 0 where
  reads : doctype_of (drop 9 us) ≡ Some rest
  is : token ≡ Doctype

record Commented (us rest : List ℕ) (token : PageToken) : Type 0 where
  inner : List ℕ
  reads : comment_of (drop 4 us) ≡ Some (inner, rest)
  is : token ≡ Comment inner

record Ended (us rest : List ℕ) (token : PageToken) : Type 0 where
  name : List ℕ
  reads : end_tag_of (drop 2 us) ≡ Some (name, rest)
  is : token ≡ EndTag (folded name)

data Element (size : ℕ) (us : List ℕ) : List ℕ → PageToken → Type 0 where
  plain : (rest : List ℕ) (tag : Tag) → StartTagAt us rest tag → begins_raw_text tag ≡ false → Element size us rest (StartTag tag)
  with_raw : (content inner rest : List ℕ) (tag : Tag) → StartTagAt us content tag → begins_raw_text tag ≡ true → raw_text_of tag.name content ≡ Some (inner, rest) → Element size us rest (Raw tag (placed size content inner))

textual : (size : ℕ) (us rest : List ℕ) (token : PageToken) → opening_of us ≡ opening.Characters → TokenAt size us rest token → Textual us token × (rest ≡ behind (is_other 60) us)
textual size us rest token o (space u e b) = (blank b, refl)
textual size us rest token o (text u v e b d) = (written v b d, refl)
textual size us rest token o (doctype u r e d) = absurd (cc)
textual size us rest token o (comment u i r e d) = absurd (cc)
textual size us rest token o (end_tag u n r e d) = absurd (cc)
textual size us rest token o (start_tag u r t s b) = absurd (cc)
textual size us rest token o (raw u c i r t s b e) = absurd (cc)

textual_once : (us : List ℕ) (token token' : PageToken) → Textual us token → Textual us token' → token ≡ token'
textual_once us token token' (blank b) (blank b') = refl
textual_once us token token' (blank b) (written v b' d) = absurd (cc)
textual_once us token token' (written v b d) (blank b') = absurd (cc)
textual_once us token token' (written v b d) (written v' b' d') = ap Text (decodes_once (run_of (is_other 60) us) v v' d d')

declared : (size : ℕ) (us rest : List ℕ) (token : PageToken) → opening_of us ≡ opening.Doctype → TokenAt size us rest token → Declared us rest token
declared size us rest token o (space u e b) = absurd (cc)
declared size us rest token o (text u v e b d) = absurd (cc)
declared size us rest token o (doctype u r e d) = record { reads = d; is = refl }
declared size us rest token o (comment u i r e d) = absurd (cc)
declared size us rest token o (end_tag u n r e d) = absurd (cc)
declared size us rest token o (start_tag u r t s b) = absurd (cc)
declared size us rest token o (raw u c i r t s b e) = absurd (cc)

commented : (size : ℕ) (us rest : List ℕ) (token : PageToken) → opening_of us ≡ opening.Comment → TokenAt size us rest token → Commented us rest token
commented size us rest token o (space u e b) = absurd (cc)
commented size us rest token o (text u v e b d) = absurd (cc)
commented size us rest token o (doctype u r e d) = absurd (cc)
commented size us rest token o (comment u i r e d) = record { inner = i; reads = d; is = refl }
commented size us rest token o (end_tag u n r e d) = absurd (cc)
commented size us rest token o (start_tag u r t s b) = absurd (cc)
commented size us rest token o (raw u c i r t s b e) = absurd (cc)

ended : (size : ℕ) (us rest : List ℕ) (token : PageToken) → opening_of us ≡ opening.EndTag → TokenAt size us rest token → Ended us rest token
ended size us rest token o (space u e b) = absurd (cc)
ended size us rest token o (text u v e b d) = absurd (cc)
ended size us rest token o (doctype u r e d) = absurd (cc)
ended size us rest token o (comment u i r e d) = absurd (cc)
ended size us rest token o (end_tag u n r e d) = record { name = n; reads = d; is = refl }
ended size us rest token o (start_tag u r t s b) = absurd (cc)
ended size us rest token o (raw u c i r t s b e) = absurd (cc)

element : (size : ℕ) (us rest : List ℕ) (token : PageToken) → opening_of us ≡ opening.StartTag → TokenAt size us rest token → Element size us rest token
element size us rest token o (space u e b) = absurd (cc)
element size us rest token o (text u v e b d) = absurd (cc)
element size us rest token o (doctype u r e d) = absurd (cc)
element size us rest token o (comment u i r e d) = absurd (cc)
element size us rest token o (end_tag u n r e d) = absurd (cc)
element size us rest token o (start_tag u r t s b) = plain r t s b
element size us rest token o (raw u c i r t s b e) = with_raw c i r t s b e

element_once : (size : ℕ) (us rest rest' : List ℕ) (token token' : PageToken) → Element size us rest token → Element size us rest' token' → (rest ≡ rest') × (token ≡ token')
element_once size us rest rest' token token' (plain r t s b) (plain r' t' s' b') =
    let same = start_tag_once us r r' t t' s s' in (same.0, ap StartTag same.1)
element_once size us rest rest' token token' (plain r t s b) (with_raw c' i' r' t' s' b' e') =
    let same = start_tag_once us r c' t t' s s' in let one = ap begins_raw_text same.1 in absurd (cc)
element_once size us rest rest' token token' (with_raw c i r t s b e) (plain r' t' s' b') =
    let same = start_tag_once us c r' t t' s s' in let one = ap begins_raw_text same.1 in absurd (cc)
element_once size us rest rest' token token' (with_raw c i r t s b e) (with_raw c' i' r' t' s' b' e') =
    let same = start_tag_once us c c' t t' s s' in
    let texts = some_pair i i' r r' (sym e ∙ ap (λ x. raw_text_of x.name c) same.1 ∙ ap (raw_text_of t'.name) same.0 ∙ e') in
    (texts.1, ap (λ x. Raw x (placed size c i)) same.1 ∙ ap (λ x. Raw t' (placed size x i)) same.0 ∙ ap (λ x. Raw t' (placed size c' x)) texts.0)

pub token_once : (size : ℕ) (us rest rest' : List ℕ) (token token' : PageToken) → TokenAt size us rest token → TokenAt size us rest' token' → (rest ≡ rest') × (token ≡ token')
token_once size us rest rest' token token' (space u e b) other =
    let o = textual size u rest' token' e other in
    (sym o.1, textual_once u (Space (run_of (is_other 60) u)) token' (blank b) o.0)
token_once size us rest rest' token token' (text u v e b d) other =
    let o = textual size u rest' token' e other in
    (sym o.1, textual_once u (Text v) token' (written v b d) o.0)
token_once size us rest rest' token token' (doctype u r e d) other =
    let o = declared size u rest' token' e other in
    (some_one r rest' (sym d ∙ o.reads), sym o.is)
token_once size us rest rest' token token' (comment u i r e d) other =
    let o = commented size u rest' token' e other in
    let same = some_pair i o.inner r rest' (sym d ∙ o.reads) in
    (same.1, ap Comment same.0 ∙ sym o.is)
token_once size us rest rest' token token' (end_tag u n r e d) other =
    let o = ended size u rest' token' e other in
    let same = some_pair n o.name r rest' (sym d ∙ o.reads) in
    (same.1, ap (λ x. EndTag (folded x)) same.0 ∙ sym o.is)
token_once size us rest rest' token token' (start_tag u r t s b) other =
    element_once size u r rest' (StartTag t) token' (plain r t s b) (element size u rest' token' s.opens other)
token_once size us rest rest' token token' (raw u c i r t s b e) other =
    element_once size u r rest' (Raw t (placed size c i)) token' (with_raw c i r t s b e) (element size u rest' token' s.opens other)

-- Refusals

end_opens_nothing : opening_of [] ≡ opening.Nothing
unfolding opening_of
end_opens_nothing = refl

pub nothing_refused : (size : ℕ) (us rest : List ℕ) (token : PageToken) → opening_of us ≡ opening.Nothing → TokenAt size us rest token → ⊥
nothing_refused size us rest token o (space u e b) = absurd (cc)
nothing_refused size us rest token o (text u v e b d) = absurd (cc)
nothing_refused size us rest token o (doctype u r e d) = absurd (cc)
nothing_refused size us rest token o (comment u i r e d) = absurd (cc)
nothing_refused size us rest token o (end_tag u n r e d) = absurd (cc)
nothing_refused size us rest token o (start_tag u r t s b) = absurd (cc)
nothing_refused size us rest token o (raw u c i r t s b e) = absurd (cc)

pub nothing_at_end : (size : ℕ) (rest : List ℕ) (token : PageToken) → TokenAt size [] rest token → ⊥
nothing_at_end size rest token at = nothing_refused size [] rest token end_opens_nothing at

no_value : (us : List ℕ) (token : PageToken) → list_all is_space (run_of (is_other 60) us) ≡ false → ((value : List ℕ) → Decodes (run_of (is_other 60) us) value → ⊥) → Textual us token → ⊥
no_value us token f none (blank b) = absurd (cc)
no_value us token f none (written v b d) = none v d

pub text_refused : (size : ℕ) (us run : List ℕ) (n : ℕ) → opening_of us ≡ opening.Characters → n ≡ prefix_len (is_other 60) us → run ≡ take n us → list_all is_space run ≡ false → ((value : List ℕ) → Decodes run value → ⊥) → (rest : List ℕ) (token : PageToken) → TokenAt size us rest token → ⊥
text_refused size us run n o l r f none rest token at =
    let e : run ≡ run_of (is_other 60) us = r ∙ ap (λ k. take k us) l in
    no_value us token (sym (ap (list_all is_space) e) ∙ f) (λ v d. none v (subst (λ x. Decodes x v) (sym e) d)) (textual size us rest token o at).0

pub space_stands : (size : ℕ) (us run rest value : List ℕ) (n : ℕ) → opening_of us ≡ opening.Characters → n ≡ prefix_len (is_other 60) us → run ≡ take n us → rest ≡ drop n us → list_all is_space run ≡ true → value ≡ run → TokenAt size us rest (Space value)
space_stands size us run rest value n o l r d f v =
    let e : run ≡ run_of (is_other 60) us = r ∙ ap (λ k. take k us) l in
    let g : rest ≡ behind (is_other 60) us = d ∙ ap (λ k. drop k us) l in
    rw (v, e, g) (space us o (sym (ap (list_all is_space) e) ∙ f))

pub text_stands : (size : ℕ) (us run rest value : List ℕ) (n : ℕ) → opening_of us ≡ opening.Characters → n ≡ prefix_len (is_other 60) us → run ≡ take n us → rest ≡ drop n us → list_all is_space run ≡ false → Decodes run value → TokenAt size us rest (Text value)
text_stands size us run rest value n o l r d f v =
    let e : run ≡ run_of (is_other 60) us = r ∙ ap (λ k. take k us) l in
    let g : rest ≡ behind (is_other 60) us = d ∙ ap (λ k. drop k us) l in
    rw g (text us value o (sym (ap (list_all is_space) e) ∙ f) (subst (λ x. Decodes x value) e v))

not_markup : (us : List ℕ) → markup us ≡ opening.Characters → ⊥
not_markup [] e = absurd (cc)
not_markup (u ∷ us) e = by_case (is_letter u) (u == 47) (u == 33) (is_front (codes "--") us) (is_front_in_any_case (codes "doctype") us) e
  where
    by_case : (a b c d f : Bool) → cond a opening.StartTag (cond b opening.EndTag (cond c (cond d opening.Comment (cond f opening.Doctype opening.Nothing)) opening.Nothing)) ≡ opening.Characters → ⊥
    by_case true b c d f e = absurd (cc)
    by_case false true c d f e = absurd (cc)
    by_case false false true true f e = absurd (cc)
    by_case false false true false true e = absurd (cc)
    by_case false false true false false e = absurd (cc)
    by_case false false false d f e = absurd (cc)

starts_run : (us : List ℕ) → opening_of us ≡ opening.Characters → 1 ≤ prefix_len (is_other 60) us
unfolding opening_of
starts_run [] o = absurd (cc)
starts_run (u ∷ us) o = by_unit (u == 60) refl o
  where
    by_unit : (b : Bool) → (u == 60) ≡ b → (cond b (markup us) opening.Characters) ≡ opening.Characters → 1 ≤ cond (not b) (1 + prefix_len (is_other 60) us) 0
    by_unit true e f = absurd (not_markup us f)
    by_unit false e f = omega arith

pub text_is_shorter : (us rest : List ℕ) (n : ℕ) → opening_of us ≡ opening.Characters → n ≡ prefix_len (is_other 60) us → 0 < length us → length rest + n ≡ length us → length rest < length us
text_is_shorter us rest n o l some back = let s = starts_run us o in omega arith

pub doctype_stands : (size : ℕ) (us inner rest : List ℕ) → opening_of us ≡ opening.Doctype → inner ≡ drop 9 us → doctype_of inner ≡ Some rest → TokenAt size us rest Doctype
doctype_stands size us inner rest o e d = doctype us rest o (sym (ap doctype_of e) ∙ d)

pub comment_stands : (size : ℕ) (us all inner rest value : List ℕ) → opening_of us ≡ opening.Comment → all ≡ drop 4 us → comment_of all ≡ Some (inner, rest) → value ≡ inner → TokenAt size us rest (Comment value)
comment_stands size us all inner rest value o e d v = rw v (comment us inner rest o (sym (ap comment_of e) ∙ d))

pub end_tag_stands : (size : ℕ) (us all name rest value : List ℕ) → opening_of us ≡ opening.EndTag → all ≡ drop 2 us → end_tag_of all ≡ Some (name, rest) → value ≡ folded name → TokenAt size us rest (EndTag value)
end_tag_stands size us all name rest value o e d v = rw v (end_tag us name rest o (sym (ap end_tag_of e) ∙ d))

pub doctype_refused : (size : ℕ) (us : List ℕ) → opening_of us ≡ opening.Doctype → doctype_of (drop 9 us) ≡ None → (rest : List ℕ) (token : PageToken) → TokenAt size us rest token → ⊥
doctype_refused size us o none rest token at = let t = declared size us rest token o at in absurd (cc)

pub comment_refused : (size : ℕ) (us : List ℕ) → opening_of us ≡ opening.Comment → comment_of (drop 4 us) ≡ None → (rest : List ℕ) (token : PageToken) → TokenAt size us rest token → ⊥
comment_refused size us o none rest token at = let t = commented size us rest token o at in absurd (cc)

pub end_tag_refused : (size : ℕ) (us : List ℕ) → opening_of us ≡ opening.EndTag → end_tag_of (drop 2 us) ≡ None → (rest : List ℕ) (token : PageToken) → TokenAt size us rest token → ⊥
end_tag_refused size us o none rest token at = let t = ended size us rest token o at in absurd (cc)

no_tag : (size : ℕ) (us rest : List ℕ) (token : PageToken) → ((rest : List ℕ) (tag : Tag) → StartTagAt us rest tag → ⊥) → Element size us rest token → ⊥
no_tag size us rest token none (plain r t s b) = none r t s
no_tag size us rest token none (with_raw c i r t s b e) = none c t s

pub element_refused : (size : ℕ) (us : List ℕ) → opening_of us ≡ opening.StartTag → ((rest : List ℕ) (tag : Tag) → StartTagAt us rest tag → ⊥) → (rest : List ℕ) (token : PageToken) → TokenAt size us rest token → ⊥
element_refused size us o none rest token at = no_tag size us rest token none (element size us rest token o at)

no_raw : (size : ℕ) (us content rest : List ℕ) (tag : Tag) (token : PageToken) → StartTagAt us content tag → begins_raw_text tag ≡ true → raw_text_of tag.name content ≡ None → Element size us rest token → ⊥
no_raw size us content rest tag token at begins none (plain r t s b) =
    let same = start_tag_once us content r tag t at s in let one = ap begins_raw_text same.1 in absurd (cc)
no_raw size us content rest tag token at begins none (with_raw c i r t s b e) =
    let same = start_tag_once us content c tag t at s in
    let one = ap (λ x. raw_text_of x.name content) same.1 ∙ ap (raw_text_of t.name) same.0 in
    absurd (cc)

pub raw_refused : (size : ℕ) (us content : List ℕ) (tag : Tag) → StartTagAt us content tag → begins_raw_text tag ≡ true → raw_text_of tag.name content ≡ None → (rest : List ℕ) (token : PageToken) → TokenAt size us rest token → ⊥
raw_refused size us content tag at begins none rest token t =
    no_raw size us content rest tag token at begins none (element size us rest token at.opens t)

-- Start tags from their parts

behind_name : (us inner back : List ℕ) (n : ℕ) → inner ≡ drop 1 us → n ≡ prefix_len is_name_part inner → back ≡ drop n inner → back ≡ behind is_name_part (drop 1 us)
behind_name us inner back n i l b = b ∙ ap (λ k. drop k inner) l ∙ ap (behind is_name_part) i

pub start_tag_refused : (us inner back end : List ℕ) (n : ℕ) (attributes : List (List ℕ × List ℕ)) → inner ≡ drop 1 us → n ≡ prefix_len is_name_part inner → back ≡ drop n inner → Attributes back end attributes → tag_end end ≡ None → (rest : List ℕ) (tag : Tag) → StartTagAt us rest tag → ⊥
start_tag_refused us inner back end n attributes i l b read none rest tag s =
    let here = subst (λ x. Attributes x end attributes) (behind_name us inner back n i l b) read in
    let same = attributes_once (behind is_name_part (drop 1 us)) end s.end attributes tag.attributes here s.attributes in
    let one = ap tag_end same.0 in
    let two = s.closes in
    absurd (cc)

pub no_attributes : (us inner back : List ℕ) (n : ℕ) → inner ≡ drop 1 us → n ≡ prefix_len is_name_part inner → back ≡ drop n inner → ((end : List ℕ) (all : List (List ℕ × List ℕ)) → Attributes back end all → ⊥) → (rest : List ℕ) (tag : Tag) → StartTagAt us rest tag → ⊥
no_attributes us inner back n i l b none rest tag s =
    none s.end tag.attributes (subst (λ x. Attributes x s.end tag.attributes) (sym (behind_name us inner back n i l b)) s.attributes)

pub start_tag_stands : (us inner front back end rest name : List ℕ) (n : ℕ) (attributes : List (List ℕ × List ℕ)) (closed : Bool) → opening_of us ≡ opening.StartTag → inner ≡ drop 1 us → n ≡ prefix_len is_name_part inner → front ≡ take n inner → back ≡ drop n inner → Attributes back end attributes → tag_end end ≡ Some (closed, rest) → name ≡ folded front → StartTagAt us rest (record { name = name; attributes = attributes; closed = closed })
start_tag_stands us inner front back end rest name n attributes closed o i l f b read ends e = record {
  opens = o;
  named = e ∙ ap folded (f ∙ ap (λ k. take k inner) l ∙ ap (run_of is_name_part) i);
  end = end;
  attributes = subst (λ x. Attributes x end attributes) (behind_name us inner back n i l b) read;
  closes = ends;
}

pub raw_stands : (size start end : ℕ) (us content inner rest value : List ℕ) (tag : Tag) → StartTagAt us content tag → begins_raw_text tag ≡ true → raw_text_of tag.name content ≡ Some (inner, rest) → value ≡ inner → start ≡ size - length content → end ≡ start + length inner → TokenAt size us rest (Raw tag (record { text = value; start = start; end = end }))
raw_stands size start end us content inner rest value tag s b r v e f =
    rw (v, f, e) (raw us content inner rest tag s b r)
