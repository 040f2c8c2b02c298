-- What stands behind a token does not change it.
use Rattle.std.proofs.Common.{◌≡◌, ◌∙◌, ℕ, ◌+◌, ◌-◌, ◌≤◌, ◌==◌, ◌||◌, Bool, true, false, not, List, [], ◌∷◌, ◌++◌, drop, length, refl, sym, ap, subst, Option, Some, None, append_assoc, length-append, arith}
use Rattle.std.specs.List.{list_all}
use Rattle.dom_tree.specs.Name.{folded, is_name_part}
use Rattle.page_tokens.specs.declared.opening.Opening.TheVariants as opening
use Rattle.page_tokens.specs.declared.token.PageToken.{PageToken}
use Rattle.page_tokens.specs.declared.token.PageToken.TheVariants.{Doctype, Raw, Space, Text}
use Rattle.page_tokens.specs.declared.token.Tag.{Tag}
use Rattle.page_tokens.specs.Attributes.{Attributes}
use Rattle.page_tokens.specs.Characters.{begins_with, behind, is_letter, is_other, is_space, run_of}
use Rattle.page_tokens.specs.Laws.{StaysAt, ends_itself, opens_markup}
use Rattle.page_tokens.specs.References.{Decodes}
use Rattle.page_tokens.specs.Tags.{behind_close, comment_of, doctype_of, end_tag_of, ends_raw_text, opening_of, paired, raw_text_of, tag_end}
use Rattle.page_tokens.specs.Tokens.{StartTagAt, TokenAt, begins_raw_text, placed}
use Rattle.page_tokens.specs.Tokens.TokenAt.{space, text, doctype, comment, end_tag, start_tag, raw}
use Rattle.page_tokens.proofs.AttributesStay.{attributes_at, run_starts}
use Rattle.page_tokens.proofs.Pairs.{some_pair}
use Rattle.page_tokens.proofs.RawStay.{Nowhere, ends_comment, ends_raw}
use Rattle.page_tokens.proofs.Runs.{IsSplit, begins_same, run_again, run_split}
use Rattle.page_tokens.proofs.Shapes.{characters_shape, comment_shape, doctype_shape, end_shape, opens_characters, opens_comment, opens_end, opens_start, start_shape}
use Rattle.page_tokens.proofs.TagsStay.{EndsClose, ends_tag, ends_close, ends_doctype}

-- Text

pub opens_again : (us more : List ℕ) → (us ≡ [] → ⊥) → opening_of (us ++ more) ≡ opening.Characters → (other : List ℕ) → opening_of (us ++ other) ≡ opening.Characters
opens_again [] more some e other = absurd (some refl)
opens_again (u ∷ us) more some e other =
    let s = characters_shape (u ∷ (us ++ more)) e in
    let one : s.unit ≡ u = let i = s.is in cc in
    opens_characters u (us ++ other) (sym (ap (λ x. x == 60) one) ∙ s.other)

some_run : (us run tail : List ℕ) → opening_of us ≡ opening.Characters → IsSplit (is_other 60) us run tail → run ≡ [] → ⊥
some_run us run [] o s e = let c = characters_shape us o in let w = c.is in let v = s.whole in absurd (let k = sym v ∙ w in let z : run ++ [] ≡ [] = ap (λ x. x ++ []) e in cc)
some_run us run (u ∷ tail) o s e =
    let c = characters_shape us o in
    let w : u ∷ tail ≡ c.unit ∷ c.tail = sym (ap (λ x. x ++ u ∷ tail) e) ∙ sym s.whole ∙ c.is in
    let one : u ≡ c.unit = cc in
    let not_it = ap (λ x. not (x == 60)) one ∙ ap not c.other in
    let it = s.ends in
    absurd (cc)

markup_begins : (tail : List ℕ) → begins_with (is_other 60) tail ≡ false → opens_markup tail ≡ true
markup_begins [] e = refl
markup_begins (u ∷ tail) e = by_case (u == 60) refl e
  where
    by_case : (b : Bool) → (u == 60) ≡ b → not b ≡ false → (u == 60) ≡ true
    by_case true f g = f
    by_case false f g = absurd (cc)

markup_ends : (more : List ℕ) → opens_markup more ≡ true → begins_with (is_other 60) more ≡ false
markup_ends [] e = refl
markup_ends (u ∷ more) e = ap not e

text_stays : (size : ℕ) (us : List ℕ) (token : PageToken) → opening_of us ≡ opening.Characters → ends_itself token ≡ false → ((other : ℕ) (vs : List ℕ) → opening_of vs ≡ opening.Characters → run_of (is_other 60) vs ≡ run_of (is_other 60) us → TokenAt other vs (behind (is_other 60) vs) token) → StaysAt size us (behind (is_other 60) us) token
text_stays size us token o itself make =
    let s = run_split (is_other 60) us in
    let run = run_of (is_other 60) us in
    let some = some_run us run (behind (is_other 60) us) o s in
    record {
      front = run;
      is_front = s.whole;
      ends = ap (λ b. b || opens_markup (behind (is_other 60) us)) itself ∙ markup_begins (behind (is_other 60) us) s.ends;
      stays = λ other more ends same.
          let r = run_again (is_other 60) run more s.all (markup_ends more (sym (ap (λ b. b || opens_markup more) itself) ∙ ends)) in
          subst (λ x. TokenAt other (run ++ more) x token) r.1 (make other (run ++ more) (opens_again run (behind (is_other 60) us) some (sym (ap opening_of s.whole) ∙ o) more) r.0);
    }

-- Tags

letter_is_part : (u : ℕ) → is_letter u ≡ true → is_name_part u ≡ true
letter_is_part u e = rw e refl

begins_run : (n more : List ℕ) → begins_with is_letter n ≡ true → begins_with is_letter (n ++ more) ≡ true
begins_run [] more e = absurd (cc)
begins_run (u ∷ n) more e = e

-- an end tag behind `</`, before whatever follows it
record EndsEndTag (us name rest : List ℕ) : Type 0 where
  front : List ℕ
  whole : us ≡ front ++ rest
  again : (more : List ℕ) → end_tag_of (front ++ more) ≡ Some (name, more)

end_tag_is : (us : List ℕ) → begins_with is_letter us ≡ true → end_tag_of us ≡ paired (run_of is_name_part us) (behind_close (behind is_name_part us))
unfolding end_tag_of
end_tag_is us e = rw e refl

no_end_tag : (us : List ℕ) → begins_with is_letter us ≡ false → end_tag_of us ≡ None
unfolding end_tag_of
no_end_tag us e = rw e refl

paired_parts : (front : List ℕ) (o : Option (List ℕ)) (inner rest : List ℕ) → paired front o ≡ Some (inner, rest) → (front ≡ inner) × (o ≡ Some rest)
paired_parts front None inner rest e = absurd (cc)
paired_parts front (Some x) inner rest e = let p = some_pair front inner x rest e in (p.0, ap Some p.1)

ends_end_tag : (us name rest : List ℕ) → end_tag_of us ≡ Some (name, rest) → EndsEndTag us name rest
ends_end_tag us name rest e = by_letter (begins_with is_letter us) refl
  where
    by_run : (n tail : List ℕ) → IsSplit is_name_part us n tail → begins_with is_letter n ≡ true → n ≡ name → EndsClose tail rest → EndsEndTag us name rest
    by_run n tail s letter same c =
        record {
          front = n ++ c.front;
          whole = s.whole ∙ ap (λ x. n ++ x) c.whole ∙ sym (append_assoc n c.front rest);
          again = λ more.
              let r = run_again is_name_part n (c.front ++ more) s.all (begins_same is_space is_name_part c.front more rest c.solid ∙ sym (ap (begins_with is_name_part) c.whole) ∙ s.ends) in
              ap end_tag_of (append_assoc n c.front more) ∙ end_tag_is (n ++ (c.front ++ more)) (begins_run n (c.front ++ more) letter) ∙ ap (λ x. paired x (behind_close (behind is_name_part (n ++ (c.front ++ more))))) r.0 ∙ ap (λ x. paired n (behind_close x)) r.1 ∙ ap (paired n) (c.again more) ∙ ap (λ x. Some (x, more)) same;
        }

    by_letter : (b : Bool) → begins_with is_letter us ≡ b → EndsEndTag us name rest
    by_letter false f = absurd (let n = no_end_tag us f in cc)
    by_letter true f =
        let p = paired_parts (run_of is_name_part us) (behind_close (behind is_name_part us)) name rest (sym (end_tag_is us f) ∙ e) in
        by_run (run_of is_name_part us) (behind is_name_part us) (run_split is_name_part us) (run_starts is_name_part is_letter us letter_is_part f) p.0 (ends_close (behind is_name_part us) rest p.1)

-- a start tag, before whatever follows it
pub record TagStays (us rest : List ℕ) (tag : Tag) : Type 0 where
  pub front : List ℕ
  pub whole : us ≡ front ++ rest
  pub ended : (g : List ℕ) × (front ≡ g ++ 62 ∷ [])
  pub again : (more : List ℕ) → StartTagAt (front ++ more) more tag

opens_run : (n more : List ℕ) → begins_with is_letter n ≡ true → opening_of (60 ∷ (n ++ more)) ≡ opening.StartTag
opens_run [] more e = absurd (cc)
opens_run (u ∷ n) more e = opens_start u (n ++ more) e

pub tag_stays : (us rest : List ℕ) (tag : Tag) → StartTagAt us rest tag → TagStays us rest tag
tag_stays us rest tag s =
    let a = start_shape us s.opens in
    let inner = drop 1 us in
    let is_inner : inner ≡ a.unit ∷ a.tail = ap (drop 1) a.is in
    let n = run_split is_name_part inner in
    let t = ends_tag tag.closed s.end rest s.closes in
    let list = attributes_at (behind is_name_part inner) s.end t.front rest tag.attributes s.attributes t.whole t.solid t.last in
    let letter = run_starts is_name_part is_letter inner letter_is_part (ap (begins_with is_letter) is_inner ∙ a.letter) in
    by_parts (run_of is_name_part inner) list.front t.front n.all (sym (ap (begins_with is_name_part) list.whole) ∙ n.ends) list.solid letter s.named (a.is ∙ ap (λ x. 60 ∷ x) (sym is_inner ∙ n.whole ∙ ap (λ x. run_of is_name_part inner ++ x) list.whole)) list.again t.again (list.tail.0 ++ t.ended.0, list.tail.1 ∙ ap (λ x. list.tail.0 ++ x) t.ended.1 ∙ sym (append_assoc list.tail.0 t.ended.0 (62 ∷ [])))
  where
    by_parts : (name attributes end : List ℕ) → list_all is_name_part name ≡ true → begins_with is_name_part (attributes ++ rest) ≡ false → list_all is_space attributes ≡ false → begins_with is_letter name ≡ true → tag.name ≡ folded name → us ≡ 60 ∷ (name ++ (attributes ++ rest)) → ((more : List ℕ) → Attributes (attributes ++ more) (end ++ more) tag.attributes) → ((more : List ℕ) → tag_end (end ++ more) ≡ Some (tag.closed, more)) → (g : List ℕ) × (attributes ≡ g ++ 62 ∷ []) → TagStays us rest tag
    by_parts name attributes end all ends solid letter named whole listed closes g = record {
      front = 60 ∷ (name ++ attributes);
      ended = (60 ∷ (name ++ g.0), ap (λ x. 60 ∷ (name ++ x)) g.1 ∙ ap (λ x. 60 ∷ x) (sym (append_assoc name g.0 (62 ∷ []))));
      whole = whole ∙ ap (λ x. 60 ∷ x) (sym (append_assoc name attributes rest));
      again = λ more.
          let r = run_again is_name_part name (attributes ++ more) all (begins_same is_space is_name_part attributes more rest solid ∙ ends) in
          let at : StartTagAt (60 ∷ (name ++ (attributes ++ more))) more tag = record {
            opens = opens_run name (attributes ++ more) letter;
            named = named ∙ ap folded (sym r.0);
            end = end ++ more;
            attributes = subst (λ x. Attributes x (end ++ more) tag.attributes) (sym r.1) (listed more);
            closes = closes more;
          } in
          subst (λ x. StartTagAt (60 ∷ x) more tag) (sym (append_assoc name attributes more)) at;
    }

-- Raw text

place_same : (size other a old new : ℕ) → other + (a + old) ≡ size + (a + new) → size - old ≡ other - new
place_same size other a old new e = omega (arith, e)

-- an element with raw text, before whatever follows it, and with any other text that does not end sooner
pub record RawStays (us rest : List ℕ) (tag : Tag) (content inner : List ℕ) : Type 0 where
  pub opens : List ℕ
  pub mark : List ℕ
  pub whole : us ≡ opens ++ content
  pub ended : (g : List ℕ) × (opens ≡ g ++ 62 ∷ [])
  pub content_is : content ≡ inner ++ (mark ++ rest)
  pub long : 3 + length tag.name ≤ length mark
  pub nowhere : (more : List ℕ) → Nowhere (ends_raw_text tag.name) inner (mark ++ more)
  pub ends : (more : List ℕ) → ends_raw_text tag.name (mark ++ more) ≡ true
  pub again : (size : ℕ) (other more : List ℕ) → Nowhere (ends_raw_text tag.name) other (mark ++ more) → TokenAt size (opens ++ (other ++ (mark ++ more))) more (Raw tag (placed size (other ++ (mark ++ more)) other))

pub raw_stays : (us content inner rest : List ℕ) (tag : Tag) → StartTagAt us content tag → begins_raw_text tag ≡ true → raw_text_of tag.name content ≡ Some (inner, rest) → RawStays us rest tag content inner
raw_stays us content inner rest tag s b e =
    let t = tag_stays us content tag s in
    let r = ends_raw tag.name content inner rest e in
    record {
      opens = t.front;
      mark = r.mark;
      whole = t.whole;
      ended = t.ended;
      content_is = r.whole;
      long = r.long;
      nowhere = r.nowhere;
      ends = r.ends;
      again = λ size other more n. raw (t.front ++ (other ++ (r.mark ++ more))) (other ++ (r.mark ++ more)) other more tag (t.again (other ++ (r.mark ++ more))) b (r.again other more n);
    }

raw_at : (size : ℕ) (us content inner rest : List ℕ) (tag : Tag) → RawStays us rest tag content inner → StaysAt size us rest (Raw tag (placed size content inner))
raw_at size us content inner rest tag r =
    let front : List ℕ = r.opens ++ (inner ++ r.mark) in
    let with_more : (x : List ℕ) → front ++ x ≡ r.opens ++ (inner ++ (r.mark ++ x)) = λ x. append_assoc r.opens (inner ++ r.mark) x ∙ ap (λ y. r.opens ++ y) (append_assoc inner r.mark x) in
    record {
      front = front;
      is_front = r.whole ∙ ap (λ x. r.opens ++ x) r.content_is ∙ sym (with_more rest);
      ends = refl;
      stays = λ other more ends same.
          let content' : List ℕ = inner ++ (r.mark ++ more) in
          let old = ap length r.whole ∙ length-append r.opens content in
          let new = ap length (with_more more) ∙ length-append r.opens content' in
          let at : other + (length r.opens + length content) ≡ size + (length r.opens + length content') = omega (arith, old, new, same) in
          let start = place_same size other (length r.opens) (length content) (length content') at in
          let token : ℕ → PageToken = λ k. Raw tag (record { text = inner; start = k; end = k + length inner }) in
          subst (λ x. TokenAt other x more (token (size - length content))) (sym (with_more more)) (subst (λ x. TokenAt other (r.opens ++ content') more x) (ap token (sym start)) (r.again other inner more (r.nowhere more)));
    }

-- Tokens

pub token_stays : (size : ℕ) (us rest : List ℕ) (token : PageToken) → TokenAt size us rest token → StaysAt size us rest token
token_stays size us rest token (space vs o b) =
    text_stays size vs (Space (run_of (is_other 60) vs)) o refl (λ other ws p e. subst (λ x. TokenAt other ws (behind (is_other 60) ws) (Space x)) e (space ws p (ap (list_all is_space) e ∙ b)))
token_stays size us rest token (text vs value o b d) =
    text_stays size vs (Text value) o refl (λ other ws p e. text ws value p (ap (list_all is_space) e ∙ b) (subst (λ x. Decodes x value) (sym e) d))
token_stays size us rest token (doctype vs r o d) =
    let a = doctype_shape vs o in
    let f = ends_doctype a.tail r (sym (ap doctype_of a.behind) ∙ d) in
    record {
      front = 60 ∷ 33 ∷ (a.word ++ f.front);
      is_front = a.is ∙ ap (λ x. 60 ∷ 33 ∷ x) (ap (λ x. a.word ++ x) f.whole ∙ sym (append_assoc a.word f.front r));
      ends = refl;
      stays = λ other more ends same.
          let at = a.again (f.front ++ more) in
          subst (λ x. TokenAt other (60 ∷ 33 ∷ x) more Doctype) (sym (append_assoc a.word f.front more)) (doctype (60 ∷ 33 ∷ (a.word ++ (f.front ++ more))) more at.0 (ap doctype_of at.1 ∙ f.again more));
    }
token_stays size us rest token (comment vs inner r o d) =
    let a = comment_shape vs o in
    let f = ends_comment a.0 inner r (sym (ap (λ x. comment_of (drop 4 x)) a.1) ∙ d) in
    record {
      front = 60 ∷ 33 ∷ 45 ∷ 45 ∷ f.front;
      is_front = a.1 ∙ ap (λ x. 60 ∷ 33 ∷ 45 ∷ 45 ∷ x) f.whole;
      ends = refl;
      stays = λ other more ends same. comment (60 ∷ 33 ∷ 45 ∷ 45 ∷ (f.front ++ more)) inner more (opens_comment (f.front ++ more)) (f.again more);
    }
token_stays size us rest token (end_tag vs name r o d) =
    let a = end_shape vs o in
    let f = ends_end_tag a.0 name r (sym (ap (λ x. end_tag_of (drop 2 x)) a.1) ∙ d) in
    record {
      front = 60 ∷ 47 ∷ f.front;
      is_front = a.1 ∙ ap (λ x. 60 ∷ 47 ∷ x) f.whole;
      ends = refl;
      stays = λ other more ends same. end_tag (60 ∷ 47 ∷ (f.front ++ more)) name more (opens_end (f.front ++ more)) (f.again more);
    }
token_stays size us rest token (start_tag vs r tag s b) =
    let t = tag_stays vs r tag s in
    record {
      front = t.front;
      is_front = t.whole;
      ends = refl;
      stays = λ other more ends same. start_tag (t.front ++ more) more tag (t.again more) b;
    }
token_stays size us rest token (raw vs content inner r tag s b e) = raw_at size vs content inner r tag (raw_stays vs content inner r tag s b e)
