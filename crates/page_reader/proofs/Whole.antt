-- What is pending behind the start tag of `html`.
use Rattle.std.proofs.Common.{◌≡◌, ◌∙◌, Bool, true, false, ◌&&◌, cond, List, [], ◌∷◌, ◌++◌, length, refl, sym, ap, subst, Some, None, arith}
use Rattle.std.specs.List.{list_all}
use Rattle.js_values.specs.declared.ids.NodeId.{NodeId}
use Rattle.dom_tree.specs.Node.{Nodes, document_alone}
use Rattle.page_tokens.specs.declared.token.PageToken.{PageToken}
use Rattle.page_tokens.specs.declared.token.PageToken.TheVariants.{Comment, Doctype, EndTag, Raw, Space, StartTag}
use Rattle.page_tokens.specs.declared.token.PageToken.TheVariants as token
use Rattle.page_tokens.specs.declared.token.RawText.{RawText}
use Rattle.page_tokens.specs.declared.token.Tag.{Tag}
use Rattle.page_reader.specs.declared.tree.Frame.{Frame}
use Rattle.page_reader.specs.Elements.{is_allowed}
use Rattle.page_reader.specs.Forest.{appended, element_content, grown, next_id}
use Rattle.page_reader.specs.Pages.{Content, IsPage, PageOf, behind_prolog, is_html, is_outside}
use Rattle.page_reader.specs.Pages.PageOf.{page}
use Rattle.page_reader.specs.Reading.{Follows, Pending, html_tag}
use Rattle.page_reader.specs.Reading.Pending.{outside, inside}
use Rattle.page_reader.proofs.Steps.{inner}

abbrev pub root : NodeId
root = record { 0 = 0 }

pub record IsHtml (tok : PageToken) (tag : Tag) : Type 0 where
  pub is : tok ≡ StartTag tag
  pub named : is_html tag.name ≡ true
  pub allowed : is_allowed tag ≡ true

both : (a b : Bool) (tag tag' : Tag) → Some tag' ≡ cond (a && b) (Some tag) None → (tag' ≡ tag) × (a ≡ true) × (b ≡ true)
both true true tag tag' e = (cc, refl, refl)
both true false tag tag' e = absurd (cc)
both false b tag tag' e = absurd (cc)

pub html_parts : (tok : PageToken) (tag : Tag) → Some tag ≡ html_tag tok → IsHtml tok tag
html_parts Doctype tag e = absurd (cc)
html_parts (Comment v) tag e = absurd (cc)
html_parts (Space v) tag e = absurd (cc)
html_parts (token.Text v) tag e = absurd (cc)
html_parts (EndTag v) tag e = absurd (cc)
html_parts (Raw t r) tag e = absurd (cc)
html_parts (StartTag t) tag e =
    let p = both (is_html t.name) (is_allowed t) t tag e in
    record { is = ap StartTag (sym p.0); named = ap (λ x. is_html x.name) p.0 ∙ p.1; allowed = ap is_allowed p.0 ∙ p.2 }

record Ended (ts : List PageToken) (t : Nodes) (sc : List RawText) (u : Nodes) (s : List RawText) : Type 0 where
  outside_all : list_all is_outside ts ≡ true
  nodes : u ≡ t
  scripts : s ≡ sc

ended_all : (st : List Frame) (ts : List PageToken) (t u : Nodes) (sc s : List RawText) → st ≡ [] → Pending st ts t sc u s → Ended ts t sc u s
ended_all st ts t u sc s e (outside ts' t' sc' o) = record { outside_all = o; nodes = refl; scripts = refl }
ended_all st ts t u sc s e (inside fr below ts' b g t' u' sc' r s' c p) = absurd (cc)

-- the frame is that of the tag, and the nodes are those with the element
pub record Begun (tokens rest : List PageToken) (tok : PageToken) (tag : Tag) (html : Frame) (t : Nodes) : Type 0 where
  pub begins : behind_prolog false tokens ≡ tok ∷ rest
  pub is_tag : Some tag ≡ html_tag tok
  pub named : html.name ≡ tag.name
  pub placed : html.node ≡ next_id document_alone
  pub nodes : t ≡ appended document_alone root (element_content tag)

pub is_page : (tokens rest : List PageToken) (tok : PageToken) (tag : Tag) (html : Frame) (t u : Nodes) (s : List RawText) → Begun tokens rest tok tag html t → Pending (html ∷ []) rest t [] u s → PageOf tokens u s
is_page tokens rest tok tag html t u s b p =
    let h = html_parts tok tag b.is_tag in
    let i = inner html [] (html ∷ []) rest t u [] s refl p in
    let e = ended_all [] i.behind (grown i.f html.node t) u ([] ++ i.r) s refl i.rest in
    let read : IsPage tokens tag i.f i.r = record {
      content = rest;
      behind = i.behind;
      begins = b.begins ∙ ap (λ x. x ∷ rest) h.is;
      named = h.named;
      allowed = h.allowed;
      reads = subst (λ x. Content x rest i.behind i.f i.r) b.named i.content;
      ends = e.outside_all;
    } in
    let grows : u ≡ grown i.f (next_id document_alone) (appended document_alone root (element_content tag)) = e.nodes ∙ ap (λ x. grown i.f x t) b.placed ∙ ap (grown i.f (next_id document_alone)) b.nodes in
    subst (λ x. PageOf tokens u x) (sym e.scripts) (subst (λ x. PageOf tokens x i.r) (sym grows) (page tokens tag i.f i.r read))

pub is_pending : (tokens rest : List PageToken) (tok : PageToken) (tag : Tag) (html : Frame) (t u : Nodes) (s : List RawText) → Begun tokens rest tok tag html t → PageOf tokens u s → Pending (html ∷ []) rest t [] u s
is_pending tokens rest tok tag html t u s b (page tokens' tag' f r read) =
    let h = html_parts tok tag b.is_tag in
    let same : StartTag tag' ∷ read.content ≡ StartTag tag ∷ rest = sym read.begins ∙ b.begins ∙ ap (λ x. x ∷ rest) h.is in
    let one : tag' ≡ tag = cc in
    let two : read.content ≡ rest = cc in
    let content : Content html.name rest read.behind f r = subst (λ x. Content html.name x read.behind f r) two (subst (λ x. Content x read.content read.behind f r) (ap (λ x. x.name) one ∙ sym b.named) read.reads) in
    let grows : grown f html.node t ≡ grown f (next_id document_alone) (appended document_alone root (element_content tag')) = ap (λ x. grown f x t) b.placed ∙ ap (grown f (next_id document_alone)) (b.nodes ∙ ap (λ x. appended document_alone root (element_content x)) (sym one)) in
    inside html [] rest read.behind f t (grown f (next_id document_alone) (appended document_alone root (element_content tag'))) [] r r content (subst (λ x. Pending [] read.behind x r (grown f (next_id document_alone) (appended document_alone root (element_content tag'))) r) (sym grows) (outside read.behind (grown f (next_id document_alone) (appended document_alone root (element_content tag'))) r read.ends))

pub page_read : (tokens rest behind : List PageToken) (tok : PageToken) (tag : Tag) (html : Frame) (t u : Nodes) (sc s : List RawText) → Begun tokens rest tok tag html t → sc ≡ [] → Follows (html ∷ []) rest t sc [] behind u s → list_all is_outside behind ≡ true → PageOf tokens u s
page_read tokens rest behind tok tag html t u sc s b z f o =
    is_page tokens rest tok tag html t u s b (subst (λ x. Pending (html ∷ []) rest t x u s) z (f.back u s (outside behind u s o)))

pub page_refused : (tokens rest : List PageToken) (tok : PageToken) (tag : Tag) (html : Frame) (t : Nodes) (sc : List RawText) → Begun tokens rest tok tag html t → sc ≡ [] → ((u : Nodes) (s : List RawText) → Pending (html ∷ []) rest t sc u s → ⊥) → (u : Nodes) (s : List RawText) → PageOf tokens u s → ⊥
page_refused tokens rest tok tag html t sc b z none u s p =
    none u s (subst (λ x. Pending (html ∷ []) rest t x u s) (sym z) (is_pending tokens rest tok tag html t u s b p))

pub page_unfinished : (tokens rest behind : List PageToken) (tok : PageToken) (tag : Tag) (html : Frame) (t t' : Nodes) (sc s' : List RawText) → Begun tokens rest tok tag html t → sc ≡ [] → Follows (html ∷ []) rest t sc [] behind t' s' → list_all is_outside behind ≡ false → (u : Nodes) (s : List RawText) → PageOf tokens u s → ⊥
page_unfinished tokens rest behind tok tag html t t' sc s' b z f o u s p =
    let e = ended_all [] behind t' u s' s refl (f.on u s (subst (λ x. Pending (html ∷ []) rest t x u s) (sym z) (is_pending tokens rest tok tag html t u s b p))) in
    let no = e.outside_all in
    absurd (cc)

none_at_end : (tokens : List PageToken) (u : Nodes) (s : List RawText) → behind_prolog false tokens ≡ [] → PageOf tokens u s → ⊥
none_at_end tokens u s e (page tokens' tag' f r read) = absurd (let b = read.begins in cc)

pub no_token : (tokens left : List PageToken) (u : Nodes) (s : List RawText) → left ≡ behind_prolog false tokens → length left ≡ 0 → PageOf tokens u s → ⊥
no_token tokens [] u s e l p = none_at_end tokens u s (sym e) p
no_token tokens (t ∷ left) u s e l p = absurd (omega arith)

tag_here : (tag : Tag) → is_html tag.name ≡ true → is_allowed tag ≡ true → html_tag (StartTag tag) ≡ Some tag
tag_here tag n a = rw (n, a) refl

pub no_html : (tokens rest : List PageToken) (tok : PageToken) (u : Nodes) (s : List RawText) → behind_prolog false tokens ≡ tok ∷ rest → None ≡ html_tag tok → PageOf tokens u s → ⊥
no_html tokens rest tok u s e n (page tokens' tag' f r read) =
    let same : StartTag tag' ∷ read.content ≡ tok ∷ rest = sym read.begins ∙ e in
    let one : StartTag tag' ≡ tok = cc in
    let here : None ≡ Some tag' = n ∙ ap html_tag (sym one) ∙ tag_here tag' read.named read.allowed in
    absurd (cc)
