-- A page round one script, token by token.
use Rattle.std.proofs.Common.{◌≡◌, ◌∙◌, ℕ, ◌==◌, ◌||◌, Bool, true, false, cond, List, [], ◌∷◌, ◌++◌, length, refl, sym, ap, subst, arith, codes}
use Rattle.std.specs.Str.{IsUtf8}
use Rattle.std.proofs.lemmas.Bool.{and_parts}
use Rattle.js_core.specs.Text.{Text, utf16_of}
use Rattle.page_tokens.specs.declared.token.PageToken.{PageToken}
use Rattle.page_tokens.specs.declared.token.PageToken.TheVariants.{Comment, EndTag, Raw, StartTag}
use Rattle.page_tokens.specs.declared.token.RawText.{RawText}
use Rattle.page_tokens.specs.Attributes.{attribute_of}
use Rattle.page_tokens.specs.Attributes.Attributes.{none as no_attributes}
use Rattle.page_tokens.specs.Laws.{has_end_tag}
use Rattle.page_tokens.specs.Tags.{end_tag_of, opening_of, tag_end}
use Rattle.page_tokens.specs.Tokens.{StartTagAt, TokenAt, TokensOf, placed}
use Rattle.page_tokens.specs.Tokens.TokenAt.{end_tag, raw, start_tag}
use Rattle.page_tokens.specs.Tokens.TokensOf.{none, more}
use Rattle.page_tokens.proofs.Callers.{raw_until}
use Rattle.page_reader.specs.declared.page.ScriptText.{ScriptText}
use Rattle.page_reader.specs.Bytes.{IsPageOf, IsTextPage, script_of}
use Rattle.page_reader.specs.Elements.{is_allowed}
use Rattle.page_reader.specs.Forest.Forest.{no_trees, element}
use Rattle.page_reader.specs.Laws.{HasOneScript, IsScriptPage, Mark, bare_tag, body_text, mark_text, script_page, script_trees}
use Rattle.page_reader.specs.Laws.Mark.{no_mark, byte_order_mark, form_page_mark}
use Rattle.page_reader.specs.Pages.{Content, IsPage, PageOf, part_of}
use Rattle.page_reader.specs.Pages.Content.{ended, alone, nested}
use Rattle.page_reader.specs.Pages.PageOf.{page}
use Rattle.page_reader.specs.Pages.Part.{whole, opens}
use Rattle.page_reader.specs.Replacing.{IsReadAs, form_mark}
use Rattle.page_reader.specs.Text.{begins_with_line_feed, has_zero, is_half, line_feed, mark_size, page_text, with_line_feeds, without_mark}
use Rattle.page_reader.proofs.Cutting.{feeds_half, feeds_whole, first_unit, same_unit}
use Rattle.page_reader.proofs.Swapped.{commented, form_token}

-- Tags

html_tag : (rest : Text) → StartTagAt (codes "<html>" ++ rest) rest (bare_tag (codes "html"))
unfolding attribute_of opening_of tag_end
html_tag rest = record { opens = refl; named = refl; end = 62 ∷ rest; attributes = no_attributes (62 ∷ rest) refl; closes = refl }

body_tag : (rest : Text) → StartTagAt (codes "<body>" ++ rest) rest (bare_tag (codes "body"))
unfolding attribute_of opening_of tag_end
body_tag rest = record { opens = refl; named = refl; end = 62 ∷ rest; attributes = no_attributes (62 ∷ rest) refl; closes = refl }

script_tag : (rest : Text) → StartTagAt (codes "<script>" ++ rest) rest (bare_tag (codes "script"))
unfolding attribute_of opening_of tag_end
script_tag rest = record { opens = refl; named = refl; end = 62 ∷ rest; attributes = no_attributes (62 ∷ rest) refl; closes = refl }

html_opens : (size : ℕ) (rest : Text) → TokenAt size (codes "<html>" ++ rest) rest (StartTag (bare_tag (codes "html")))
html_opens size rest = start_tag (codes "<html>" ++ rest) rest (bare_tag (codes "html")) (html_tag rest) refl

body_opens : (size : ℕ) (rest : Text) → TokenAt size (codes "<body>" ++ rest) rest (StartTag (bare_tag (codes "body")))
body_opens size rest = start_tag (codes "<body>" ++ rest) rest (bare_tag (codes "body")) (body_tag rest) refl

html_ends : (size : ℕ) (rest : Text) → TokenAt size (codes "</html>" ++ rest) rest (EndTag (codes "html"))
unfolding end_tag_of opening_of
html_ends size rest = end_tag (codes "</html>" ++ rest) (codes "html") rest refl refl

body_ends : (size : ℕ) (rest : Text) → TokenAt size (codes "</body>" ++ rest) rest (EndTag (codes "body"))
unfolding end_tag_of opening_of
body_ends size rest = end_tag (codes "</body>" ++ rest) (codes "body") rest refl refl

-- The script and the end of the page

abbrev end_text : Text
end_text = codes "</script></html>"

abbrev raw_of : ℕ → Text → RawText
raw_of size script = placed size (script ++ end_text) script

script_at : (size : ℕ) (script : Text) → has_end_tag (codes "script") script ≡ false → TokenAt size (codes "<script>" ++ (script ++ end_text)) (codes "</html>") (Raw (bare_tag (codes "script")) (raw_of size script))
script_at size script e =
    let content : Text = script ++ end_text in
    let ends = raw_until (codes "script") script (codes "/script>") (codes "</html>") (codes "</html>") refl e refl refl in
    raw (codes "<script>" ++ content) content script (codes "</html>") (bare_tag (codes "script")) (script_tag content) refl ends

-- Tokens

abbrev end_tokens : RawText → List PageToken
end_tokens r = Raw (bare_tag (codes "script")) r ∷ EndTag (codes "html") ∷ []

abbrev content_tokens : Bool → RawText → List PageToken
content_tokens true r = StartTag (bare_tag (codes "body")) ∷ EndTag (codes "body") ∷ end_tokens r
content_tokens false r = end_tokens r

abbrev all_tokens : Bool → RawText → List PageToken
all_tokens with_body r = StartTag (bare_tag (codes "html")) ∷ content_tokens with_body r

end_read : (size : ℕ) (script : Text) → has_end_tag (codes "script") script ≡ false → TokensOf size (codes "<script>" ++ (script ++ end_text)) (end_tokens (raw_of size script))
end_read size script e =
    let html = more (codes "</html>") [] (EndTag (codes "html")) [] (html_ends size []) none in
    more (codes "<script>" ++ (script ++ end_text)) (codes "</html>") (Raw (bare_tag (codes "script")) (raw_of size script)) (EndTag (codes "html") ∷ []) (script_at size script e) html

content_read : (size : ℕ) (with_body : Bool) (script : Text) → has_end_tag (codes "script") script ≡ false → TokensOf size (body_text with_body ++ codes "<script>" ++ (script ++ end_text)) (content_tokens with_body (raw_of size script))
content_read size false script e = end_read size script e
content_read size true script e =
    let behind : Text = codes "<script>" ++ (script ++ end_text) in
    let tokens : List PageToken = end_tokens (raw_of size script) in
    more (codes "<body></body>" ++ behind) (codes "</body>" ++ behind) (StartTag (bare_tag (codes "body"))) (EndTag (codes "body") ∷ tokens) (body_opens size (codes "</body>" ++ behind)) (more (codes "</body>" ++ behind) behind (EndTag (codes "body")) tokens (body_ends size behind) (end_read size script e))

page_read : (size : ℕ) (with_body : Bool) (script : Text) → has_end_tag (codes "script") script ≡ false → TokensOf size (codes "<html>" ++ body_text with_body ++ codes "<script>" ++ (script ++ end_text)) (all_tokens with_body (raw_of size script))
page_read size with_body script e =
    let content : Text = body_text with_body ++ codes "<script>" ++ (script ++ end_text) in
    more (codes "<html>" ++ content) content (StartTag (bare_tag (codes "html"))) (content_tokens with_body (raw_of size script)) (html_opens size content) (content_read size with_body script e)

-- Nodes

script_whole : (r : RawText) → part_of (codes "html") (Raw (bare_tag (codes "script")) r) ≡ whole (element (bare_tag (codes "script")) no_trees no_trees) (r ∷ [])
unfolding is_allowed part_of
script_whole r = refl

body_begins : part_of (codes "html") (StartTag (bare_tag (codes "body"))) ≡ opens (bare_tag (codes "body"))
unfolding is_allowed part_of
body_begins = refl

html_allowed : is_allowed (bare_tag (codes "html")) ≡ true
unfolding is_allowed
html_allowed = refl

end_content : (r : RawText) → Content (codes "html") (end_tokens r) [] (element (bare_tag (codes "script")) no_trees no_trees) (r ∷ [])
end_content r = alone (codes "html") (Raw (bare_tag (codes "script")) r) (EndTag (codes "html") ∷ []) [] (element (bare_tag (codes "script")) no_trees no_trees) no_trees (r ∷ []) [] (script_whole r) (ended (codes "html") [])

html_content : (with_body : Bool) (r : RawText) → Content (codes "html") (content_tokens with_body r) [] (script_trees with_body) (r ∷ [])
html_content false r = end_content r
html_content true r = nested (codes "html") (bare_tag (codes "body")) (StartTag (bare_tag (codes "body"))) (EndTag (codes "body") ∷ end_tokens r) (end_tokens r) [] no_trees (element (bare_tag (codes "script")) no_trees no_trees) [] (r ∷ []) body_begins (ended (codes "body") (end_tokens r)) (end_content r)

page_is : (with_body : Bool) (r : RawText) → PageOf (all_tokens with_body r) (script_page with_body) (r ∷ [])
page_is with_body r =
    let read : IsPage (all_tokens with_body r) (bare_tag (codes "html")) (script_trees with_body) (r ∷ []) = record {
      content = content_tokens with_body r;
      behind = [];
      begins = refl;
      named = refl;
      allowed = html_allowed;
      reads = html_content with_body r;
      ends = refl;
    } in
    page (all_tokens with_body r) (bare_tag (codes "html")) (script_trees with_body) (r ∷ []) read

-- Behind a mark

abbrev bare_text : Bool → Text → Text
bare_text with_body script = codes "<html>" ++ body_text with_body ++ codes "<script>" ++ (script ++ end_text)

plain_page : (with_body : Bool) (script : Text) → has_end_tag (codes "script") script ≡ false → (size : ℕ) → size ≡ length (bare_text with_body script) → IsTextPage (bare_text with_body script) (script_page with_body) (raw_of size script ∷ [])
plain_page with_body script e size s =
    let reads = page_read size with_body script e in
    record { tokens = all_tokens with_body (raw_of size script); reads = subst (λ n. TokensOf n (bare_text with_body script) (all_tokens with_body (raw_of size script))) s reads; is_page = page_is with_body (raw_of size script) }

form_page : (with_body : Bool) (script : Text) → has_end_tag (codes "script") script ≡ false → (size : ℕ) → size ≡ length (form_mark ++ bare_text with_body script) → IsTextPage (form_mark ++ bare_text with_body script) (script_page with_body) (raw_of size script ∷ [])
form_page with_body script e size s =
    let text : Text = bare_text with_body script in
    let tokens : List PageToken = all_tokens with_body (raw_of size script) in
    let reads = more (form_mark ++ text) text (Comment (codes "imagen 1")) tokens (form_token size text) (page_read size with_body script e) in
    record { tokens = Comment (codes "imagen 1") ∷ tokens; reads = subst (λ n. TokensOf n (form_mark ++ text) (Comment (codes "imagen 1") ∷ tokens)) s reads; is_page = commented (codes "imagen 1") tokens (script_page with_body) (raw_of size script ∷ []) (page_is with_body (raw_of size script)) }

marked_page : (mark : Mark) (with_body : Bool) (script : Text) → has_end_tag (codes "script") script ≡ false → HasOneScript (mark_text mark ++ bare_text with_body script) (script_page with_body) script
marked_page no_mark with_body script e = let size = length (bare_text with_body script) in record { raw = raw_of size script; page = plain_page with_body script e size refl; text_is = refl }
marked_page byte_order_mark with_body script e = let size = length (bare_text with_body script) in record { raw = raw_of size script; page = plain_page with_body script e size refl; text_is = refl }
marked_page form_page_mark with_body script e = let size = length (form_mark ++ bare_text with_body script) in record { raw = raw_of size script; page = form_page with_body script e size refl; text_is = refl }

whole_is : (mark : Mark) (with_body : Bool) (script : Text) → mark_text mark ++ codes "<html>" ++ body_text with_body ++ codes "<script>" ++ script ++ end_text ≡ mark_text mark ++ bare_text with_body script
whole_is no_mark true script = refl
whole_is no_mark false script = refl
whole_is byte_order_mark true script = refl
whole_is byte_order_mark false script = refl
whole_is form_page_mark true script = refl
whole_is form_page_mark false script = refl

pub text_read : (text : Text) (with_body : Bool) (script : Text) → IsScriptPage text with_body script → HasOneScript text (script_page with_body) script
text_read text with_body script p = subst (λ x. HasOneScript x (script_page with_body) script) (sym (p.whole ∙ whole_is p.mark with_body script)) (marked_page p.mark with_body script p.no_end)

-- From bytes

-- where a text begins with another unit than LF, its byte order mark is that of the units
mark_stays : (x : ℕ) (units t : Text) → (x ≡ 10 → ⊥) → with_line_feeds units ≡ x ∷ t → without_mark (with_line_feeds units) ≡ page_text units
mark_stays x units t n e = by_unit (first_unit units t x n e)
  where
    by_mark : (b : Bool) (others : Text) → units ≡ x ∷ others → with_line_feeds others ≡ t → cond b t (x ∷ t) ≡ with_line_feeds (cond b others (x ∷ others))
    by_mark true others f g = sym g
    by_mark false others f g = sym e ∙ ap with_line_feeds f

    by_unit : (others : Text) × (units ≡ x ∷ others) × (with_line_feeds others ≡ t) → without_mark (with_line_feeds units) ≡ page_text units
    by_unit f = ap without_mark e ∙ by_mark (x == 65279) f.0 f.1 f.2 ∙ sym (ap page_text f.1)

mark_read : (mark : Mark) (units base : Text) → with_line_feeds units ≡ mark_text mark ++ (codes "<html>" ++ base) → without_mark (with_line_feeds units) ≡ page_text units
mark_read no_mark units base e = mark_stays 60 units (codes "html>" ++ base) (λ k. absurd (omega (arith, k))) e
mark_read byte_order_mark units base e = mark_stays 65279 units (codes "<html>" ++ base) (λ k. absurd (omega (arith, k))) e
mark_read form_page_mark units base e = mark_stays 60 units (codes "!--imagen 1-->" ++ (codes "<html>" ++ base)) (λ k. absurd (omega (arith, k))) e

line_zero : (u : ℕ) → (line_feed u == 0) ≡ (u == 0)
line_zero u = by_unit (u == 13) refl
  where
    by_unit : (b : Bool) → (u == 13) ≡ b → (cond b 10 u == 0) ≡ (u == 0)
    by_unit true e = sym (ap (λ x. x == 0) (same_unit u 13 e))
    by_unit false e = refl

zero_stays : (us : Text) → has_zero (with_line_feeds us) ≡ has_zero us
zero_stays [] = refl
zero_stays (u ∷ us) = by_half (is_half u us) refl (zero_stays us)
  where
    by_half : (h : Bool) → is_half u us ≡ h → has_zero (with_line_feeds us) ≡ has_zero us → has_zero (with_line_feeds (u ∷ us)) ≡ has_zero (u ∷ us)
    by_half true h step =
        let is = same_unit u 13 (and_parts (u == 13) (begins_with_line_feed us) h).0 in
        ap has_zero (feeds_half u us h) ∙ step ∙ sym (ap (λ x. (x == 0) || has_zero us) is)
    by_half false h step = ap has_zero (feeds_whole u us h) ∙ ap (λ b. b || has_zero (with_line_feeds us)) (line_zero u) ∙ ap (λ b. (u == 0) || b) step

pub bytes_read : (bytes : List ℕ) (with_body : Bool) (script : Text) → IsUtf8 bytes → IsScriptPage (with_line_feeds (utf16_of bytes)) with_body script → IsReadAs bytes (script_page with_body) (script ∷ [])
bytes_read bytes with_body script utf8 p =
    let units : Text = utf16_of bytes in
    let r = text_read (with_line_feeds units) with_body script p in
    let same = mark_read p.mark units (body_text with_body ++ codes "<script>" ++ (script ++ end_text)) (p.whole ∙ whole_is p.mark with_body script) in
    let scripts : List ScriptText = script_of (mark_size units) (without_mark units) r.raw ∷ [] in
    let read : IsPageOf bytes (script_page with_body) scripts = record {
      utf8 = utf8;
      units = record { raws = r.raw ∷ []; no_zero = sym (zero_stays units) ∙ p.no_zero; text = subst (λ x. IsTextPage x (script_page with_body) (r.raw ∷ [])) same r.page; placed = refl };
    } in
    record { scripts = scripts; page = read; texts_are = ap (λ x. x ∷ []) r.text_is }
